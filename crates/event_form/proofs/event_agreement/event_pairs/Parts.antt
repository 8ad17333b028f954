-- What a circuit reaches from some latches is what it reaches from them where it stands beside another.
use Rattle.std.proofs.Common.{◌≡◌, ◌∙◌, ℕ, Bool, List, [], ◌∷◌, Option, Some, refl, sym, ap, subst}
use Rattle.std.specs.Prelude.{◌↔◌}
use Rattle.circuit_theory.specs.Circuit.{Circuit, IsLatch, Meets}
use Rattle.circuit_theory.specs.Run.{IsEnabled}
use Rattle.circuit_theory.specs.Tree.{Tree}
use Rattle.circuit_laws.proofs.Parts.{IsPart, latch_up, latch_from, reaches_up, reaches_from, enabled_up, enabled_from}
use Rattle.circuit_theory.specs.EventFrames.{IsCareTree}
use Rattle.circuit_theory.specs.Frame.{EventSide, EventUnfolds, ConeLatches, ConeOthers, ReachedAt, IsNode}
use Rattle.circuit_laws.specs.event_laws.Sides.{moved_put}

module _ {P R : Type 0} (c : Circuit P) (j : Circuit R) (f : P → R) (replace : (R → Bool) → (P → Bool) → R → Bool) (part : IsPart c j f replace) (some : R → Bool) (meets : Meets j some) (order orders : List ℕ) (class : R → ℕ) where
  abbrev own : EventSide P
  own = record { circuit = c; order = order; class = λ p. class (f p) }

  abbrev whole : EventSide R
  whole = record { circuit = j; order = orders; class = class }

  on_up : (u : P) → IsEnabled c u → IsEnabled j (f u)
  on_up u = enabled_up c j f replace part u

  on_from : (u : P) → IsEnabled j (f u) → IsEnabled c u
  on_from u = enabled_from c j f replace part some meets u

  pub cone_from : (p : P) (r : R) → ConeLatches j (f p) r → (v : P) × (f v ≡ r) × ConeLatches c p v
  cone_from p r cone =
      let v = reaches_from c j f replace part cone.3 p refl in
      let l = latch_from c j f replace part cone.0 v.0 cone.1 (subst (λ (s : R). IsLatch j cone.0 s cone.1) (sym v.1) cone.2) in
      (v.0, v.1, (cone.0, l.0, l.1, v.2))

  pub cone_up : (p v : P) → ConeLatches c p v → ConeLatches j (f p) (f v)
  cone_up p v cone = (cone.0, f cone.1, latch_up c j f replace part cone.0 v cone.1 cone.2, reaches_up c j f replace part cone.3)

  others_from : (u : P) (r : R) → ConeOthers j (IsEnabled j) (f u) r → (v : P) × (f v ≡ r) × ConeOthers c (IsEnabled c) u v
  others_from u r others =
      let l = latch_from c j f replace part others.0 u others.1 others.2 in
      let v = cone_from l.0 r (subst (λ (s : R). ConeLatches j s r) (sym l.2) others.3) in
      (v.0, v.1, (others.0, l.0, l.1, v.2, λ on e. others.4 (on_up u on) (sym v.1 ∙ ap f e)))

  others_up : (u v : P) → ConeOthers c (IsEnabled c) u v → ConeOthers j (IsEnabled j) (f u) (f v)
  others_up u v others = (others.0, f others.1, latch_up c j f replace part others.0 u others.1 others.2, cone_up others.1 v others.3, λ on e. others.4 (on_from u on) (part.one v u e))

  abbrev SameTrees : Type 0
  SameTrees = (put : Option (P × Bool)) (p : P) (node : List ℕ) (tree : Tree (List ℕ)) → EventUnfolds own (IsEnabled c) put p node tree ↔ EventUnfolds whole (IsEnabled j) (moved_put f put) (f p) node tree

  -- what is reached from latches of the circuit is reached from those that they are where it stands
  module _ (S : P → Type 0) (T : R → Type 0) (starts_up : (v : P) → S v → T (f v)) where
    reached_up : (node : List ℕ) (v : P) → ReachedAt own (IsEnabled c) S node v → ReachedAt whole (IsEnabled j) T node (f v)
    reached_up [] v h = starts_up v h
    reached_up (k ∷ node) v h = (f h.0, reached_up node h.0 h.1, h.2, others_up h.0 v h.3)

    pub node_up : (node : List ℕ) → IsNode own (IsEnabled c) S node → IsNode whole (IsEnabled j) T node
    node_up [] h = tt
    node_up (k ∷ node) h = (f h.0, reached_up node h.0 h.1, h.2)

    pub always_from : ((node : List ℕ) (r : R) → ReachedAt whole (IsEnabled j) T node r → class r ≡ 0) → (node : List ℕ) (v : P) → ReachedAt own (IsEnabled c) S node v → class (f v) ≡ 0
    always_from none node v h = none node (f v) (reached_up node v h)

    pub care_tree_up : SameTrees → (tree : Tree (List ℕ)) → IsCareTree own S tree → IsCareTree whole T tree
    care_tree_up trees tree (IsCareTree.enable {node = node} {name = name} {v = v} {next = next} {bit = bit} reached latch on unfolds) =
        IsCareTree.enable {node = node} {name = name} {v = f v} {next = f next} {bit = bit} (reached_up node v reached) (latch_up c j f replace part name v next latch) (on_up v on) ((trees (Some (v, bit)) next (class (f v) ∷ node) tree).0 unfolds)

  -- and the other way round
  module _ (S : P → Type 0) (T : R → Type 0) (starts_from : (r : R) → T r → (v : P) × (f v ≡ r) × S v) where
    reached_from : (node : List ℕ) (r : R) → ReachedAt whole (IsEnabled j) T node r → (v : P) × (f v ≡ r) × ReachedAt own (IsEnabled c) S node v
    reached_from [] r h = starts_from r h
    reached_from (k ∷ node) r h =
        let t = reached_from node h.0 h.1 in
        let v = others_from t.0 r (subst (λ (s : R). ConeOthers j (IsEnabled j) s r) (sym t.1) h.3) in
        (v.0, v.1, (t.0, t.2, ap class t.1 ∙ h.2, v.2))

    pub node_from : (node : List ℕ) → IsNode whole (IsEnabled j) T node → IsNode own (IsEnabled c) S node
    node_from [] h = tt
    node_from (k ∷ node) h = let t = reached_from node h.0 h.1 in (t.0, t.2, ap class t.1 ∙ h.2)

    pub always_up : ((node : List ℕ) (v : P) → ReachedAt own (IsEnabled c) S node v → class (f v) ≡ 0) → (node : List ℕ) (r : R) → ReachedAt whole (IsEnabled j) T node r → class r ≡ 0
    always_up none node r h = let t = reached_from node r h in ap class (sym t.1) ∙ none node t.0 t.2

    pub care_tree_from : SameTrees → (tree : Tree (List ℕ)) → IsCareTree whole T tree → IsCareTree own S tree
    care_tree_from trees tree (IsCareTree.enable {node = node} {name = name} {v = r} {next = next} {bit = bit} reached latch on unfolds) =
        let t = reached_from node r reached in
        let l = latch_from c j f replace part name t.0 next (subst (λ (s : R). IsLatch j name s next) (sym t.1) latch) in
        let there : EventUnfolds whole (IsEnabled j) (Some (f t.0, bit)) (f l.0) (class (f t.0) ∷ node) tree =
        subst (λ (n : R). EventUnfolds whole (IsEnabled j) (Some (f t.0, bit)) n (class (f t.0) ∷ node) tree) (sym l.2)
        (subst (λ (s : R). EventUnfolds whole (IsEnabled j) (Some (s, bit)) next (class s ∷ node) tree) (sym t.1) unfolds) in
        IsCareTree.enable {node = node} {name = name} {v = t.0} {next = l.0} {bit = bit} t.2 l.1 (on_from t.0 (subst (IsEnabled j) (sym t.1) on)) ((trees (Some (t.0, bit)) l.0 (class (f t.0) ∷ node) tree).1 there)

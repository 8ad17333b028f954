-- What two circuits have side by side.
use Rattle.std.proofs.Common.{◌≡◌, ◌∙◌, ℕ, Bool, false, List, [], ◌∷◌, ◌++◌, refl, sym, ap, subst, inl, inr, Option, Some, None}
use Rattle.std.specs.Prelude.{◌⊎◌, ◌↔◌}
use Rattle.std.specs.List.{Contains}
use Rattle.circuit_theory.specs.Circuit.{Circuit, IsLatch, Meets}
use Rattle.circuit_theory.specs.Joined.{Either, Left, Right, joined, beside}
use Rattle.circuit_theory.specs.Net.{IsNet}
use Rattle.circuit_theory.specs.Query.{Variable}
use Rattle.circuit_theory.specs.Run.{IsEnabled}
use Rattle.circuit_theory.specs.Tree.{Tree}
use Rattle.circuit_laws.proofs.NetLaws.{net_value, net_value-extends}
use Rattle.circuit_laws.proofs.Parts.{IsPart, latch_up, latch_from, reaches_up, reaches_from, enabled_up, enabled_from}
use Rattle.circuit_laws.proofs.JoinedParts.{left_part, right_part, replace_left, replace_right, meets_both}
use Rattle.circuit_theory.specs.EventFrames.{IsCareTree, IsEnableTree, IsClassTree, AreNodeVariables}
use Rattle.circuit_theory.specs.EventFits.{side_by_side}
use Rattle.circuit_theory.specs.EventSizes.{Start, IsOther}
use Rattle.circuit_theory.specs.EventTotals.{StartLatches}
use Rattle.circuit_theory.specs.Frame.{EventSide, EventUnfolds, ConeLatches, ConeOthers, ReachedAt, IsNode}
use Rattle.circuit_laws.specs.event_laws.Sides.{moved_put}
use Rattle.circuit_laws.proofs.event_laws.SideTrees.{sides_unfold_in_nets}
use Rattle.circuit_laws.specs.reset_laws.class_extension.Sides.{moved_out, moved_start, AreStartsOfBoth}
use Rattle.circuit_laws.specs.reset_laws.class_extension.Laws.{left_side, right_side, SidesHaveVariables, SidesReachNodes}

module _ {P R : Type 0} (c : Circuit P) (j : Circuit R) (f : P → R) (replace : (R → Bool) → (P → Bool) → R → Bool) (part : IsPart c j f replace) (some : R → Bool) (meets : Meets j some) where
  on_up : (u : P) → IsEnabled c u → IsEnabled j (f u)
  on_up u = enabled_up c j f replace part u

  on_from : (u : P) → IsEnabled j (f u) → IsEnabled c u
  on_from u = enabled_from c j f replace part some meets u

  cone_from : (p : P) (r : R) → ConeLatches j (f p) r → (v : P) × (f v ≡ r) × ConeLatches c p v
  cone_from p r cone =
      let v = reaches_from c j f replace part cone.3 p refl in
      let l = latch_from c j f replace part cone.0 v.0 cone.1 (subst (λ (s : R). IsLatch j cone.0 s cone.1) (sym v.1) cone.2) in
      (v.0, v.1, (cone.0, l.0, l.1, v.2))

  cone_up : (p v : P) → ConeLatches c p v → ConeLatches j (f p) (f v)
  cone_up p v cone = (cone.0, f cone.1, latch_up c j f replace part cone.0 v cone.1 cone.2, reaches_up c j f replace part cone.3)

  others_from : (u : P) (r : R) → ConeOthers j (IsEnabled j) (f u) r → (v : P) × (f v ≡ r) × ConeOthers c (IsEnabled c) u v
  others_from u r others =
      let l = latch_from c j f replace part others.0 u others.1 others.2 in
      let v = cone_from l.0 r (subst (λ (s : R). ConeLatches j s r) (sym l.2) others.3) in
      (v.0, v.1, (others.0, l.0, l.1, v.2, λ on e. others.4 (on_up u on) (sym v.1 ∙ ap f e)))

  pub others_up : (u v : P) → ConeOthers c (IsEnabled c) u v → ConeOthers j (IsEnabled j) (f u) (f v)
  others_up u v others = (others.0, f others.1, latch_up c j f replace part others.0 u others.1 others.2, cone_up others.1 v others.3, λ on e. others.4 (on_from u on) (part.one v u e))

  out_up : (out : Option P) (v : P) → IsOther out v → IsOther (moved_out f out) (f v)
  out_up None v other = tt
  out_up (Some u) v other = λ e. other (part.one v u e)

  out_from : (out : Option P) (v : P) → IsOther (moved_out f out) (f v) → IsOther out v
  out_from None v other = tt
  out_from (Some u) v other = λ e. other (ap f e)

  module _ (order orders : List ℕ) (class : R → ℕ) where
    abbrev own : EventSide P
    own = record { circuit = c; order = order; class = λ p. class (f p) }

    abbrev whole : EventSide R
    whole = record { circuit = j; order = orders; class = class }

    -- what is reached, where the latches that begin are those of the circuit
    module _ (start : P → Type 0) (begin : R → Type 0) (start_up : (v : P) → start v → begin (f v)) where
      pub reached_up : (node : List ℕ) (v : P) → ReachedAt own (IsEnabled c) start node v → ReachedAt whole (IsEnabled j) begin node (f v)
      reached_up [] v h = start_up v h
      reached_up (k ∷ node) v h = (f h.0, reached_up node h.0 h.1, h.2, others_up h.0 v h.3)

      pub node_up : (node : List ℕ) → IsNode own (IsEnabled c) start node → IsNode whole (IsEnabled j) begin node
      node_up [] h = tt
      node_up (k ∷ node) h = (f h.0, reached_up node h.0 h.1, h.2)

    -- one step down
    pub step_from : (u : P) (s r : R) (k : ℕ) (node : List ℕ) (start : P → Type 0) → f u ≡ s → ReachedAt own (IsEnabled c) start node u → class s ≡ k → ConeOthers j (IsEnabled j) s r → (v : P) × (f v ≡ r) × ReachedAt own (IsEnabled c) start (k ∷ node) v
    step_from u s r k node start same reached is others =
        let v = others_from u r (subst (λ (q : R). ConeOthers j (IsEnabled j) q r) (sym same) others) in
        (v.0, v.1, (u, reached, ap class same ∙ is, v.2))

    care_reached : (u : P) (node : List ℕ) (r : R) → ReachedAt whole (IsEnabled j) (ConeOthers j (IsEnabled j) (f u)) node r → (v : P) × (f v ≡ r) × ReachedAt own (IsEnabled c) (ConeOthers c (IsEnabled c) u) node v
    care_reached u [] r h = others_from u r h
    care_reached u (k ∷ node) r h = let t = care_reached u node h.0 h.1 in step_from t.0 h.0 r k node (ConeOthers c (IsEnabled c) u) t.1 t.2 h.2 h.3

    module _ (trees : (put : Option (P × Bool)) (p : P) (node : List ℕ) (tree : Tree (List ℕ)) → EventUnfolds own (IsEnabled c) put p node tree ↔ EventUnfolds whole (IsEnabled j) (moved_put f put) (f p) node tree) where
      -- what a latch takes over
      held_from : (name : List ℕ) (u : P) (next : R) (bit : Bool) (node : List ℕ) (tree : Tree (List ℕ)) → IsLatch j name (f u) next → EventUnfolds whole (IsEnabled j) (Some (f u, bit)) next node tree →
          (to : P) × IsLatch c name u to × EventUnfolds own (IsEnabled c) (Some (u, bit)) to node tree
      held_from name u next bit node tree latch unfolds =
          let l = latch_from c j f replace part name u next latch in
          (l.0, l.1, (trees (Some (u, bit)) l.0 node tree).1 (subst (λ (q : R). EventUnfolds whole (IsEnabled j) (Some (f u, bit)) q node tree) (sym l.2) unfolds))

      enable_up : (u : P) (tree : Tree (List ℕ)) → IsEnableTree own u tree → IsEnableTree whole (f u) tree
      enable_up u tree (IsEnableTree.own {name = name} {next = next} {bit = bit} latch on unfolds) = IsEnableTree.own (latch_up c j f replace part name u next latch) (on_up u on) ((trees (Some (u, bit)) next [] tree).0 unfolds)

      enable_from : (u : P) (tree : Tree (List ℕ)) (r : R) → f u ≡ r → IsEnableTree whole r tree → IsEnableTree own u tree
      enable_from u tree r same (IsEnableTree.own {name = name} {next = next} {bit = bit} latch on unfolds) =
          let t = held_from name u next bit [] tree (subst (λ (q : R). IsLatch j name q next) (sym same) latch) (subst (λ (q : R). EventUnfolds whole (IsEnabled j) (Some (q, bit)) next [] tree) (sym same) unfolds) in
          IsEnableTree.own t.1 (on_from u (subst (IsEnabled j) (sym same) on)) t.2

      care_up : (u : P) (tree : Tree (List ℕ)) → IsCareTree own (ConeOthers c (IsEnabled c) u) tree → IsCareTree whole (ConeOthers j (IsEnabled j) (f u)) tree
      care_up u tree (IsCareTree.enable {node = node} {name = name} {v = v} {next = next} {bit = bit} reached latch on unfolds) =
          IsCareTree.enable (reached_up (ConeOthers c (IsEnabled c) u) (ConeOthers j (IsEnabled j) (f u)) (others_up u) node v reached) (latch_up c j f replace part name v next latch) (on_up v on) ((trees (Some (v, bit)) next (class (f v) ∷ node) tree).0 unfolds)

      care_from : (u : P) (tree : Tree (List ℕ)) → IsCareTree whole (ConeOthers j (IsEnabled j) (f u)) tree → IsCareTree own (ConeOthers c (IsEnabled c) u) tree
      care_from u tree (IsCareTree.enable {node = node} {name = name} {v = r} {next = next} {bit = bit} reached latch on unfolds) =
          let v = care_reached u node r reached in
          let t = held_from name v.0 next bit (class (f v.0) ∷ node) tree (subst (λ (q : R). IsLatch j name q next) (sym v.1) latch) (subst (λ (q : R). EventUnfolds whole (IsEnabled j) (Some (q, bit)) next (class q ∷ node) tree) (sym v.1) unfolds) in
          IsCareTree.enable v.2 t.1 (on_from v.0 (subst (IsEnabled j) (sym v.1) on)) t.2

      class_up : (u : P) (tree : Tree (List ℕ)) → IsClassTree own u u tree → IsClassTree whole (f u) (f u) tree
      class_up u tree (inl (inl t)) = inl (inl (enable_up u tree t))
      class_up u tree (inl (inr t)) = inl (inr (enable_up u tree t))
      class_up u tree (inr (inl t)) = inr (inl (care_up u tree t))
      class_up u tree (inr (inr t)) = inr (inr (care_up u tree t))

      class_from : (u : P) (tree : Tree (List ℕ)) → IsClassTree whole (f u) (f u) tree → IsClassTree own u u tree
      class_from u tree (inl (inl t)) = inl (inl (enable_from u tree (f u) refl t))
      class_from u tree (inl (inr t)) = inl (inr (enable_from u tree (f u) refl t))
      class_from u tree (inr (inl t)) = inr (inl (care_from u tree t))
      class_from u tree (inr (inr t)) = inr (inr (care_from u tree t))

      pub variables_up : (u : P) (variables : List (Variable (List ℕ))) → AreNodeVariables (IsClassTree own u u) variables → AreNodeVariables (IsClassTree whole (f u) (f u)) variables
      variables_up u variables are = record {
        in_order = are.in_order;
        exactly = λ x. (
          λ h. let t = (are.exactly x).0 h in (t.0, class_up u t.0 t.1, t.2),
          λ t. (are.exactly x).1 (t.0, class_from u t.0 t.1, t.2),
        );
      }

module _ (a b : Circuit ℕ) (m n : ℕ) (na : IsNet a m) (nb : IsNet b n) where
  some : Either ℕ ℕ → Bool
  some = beside (net_value a (λ p. false)) (net_value b (λ q. false))

  meets : Meets (joined a b) some
  unfolding some
  meets = meets_both a b (net_value a (λ p. false)) (net_value b (λ q. false)) (net_value-extends a m na (λ p. false)).meets (net_value-extends b n nb (λ q. false)).meets

  pub left_others : (u w : ℕ) → ConeOthers a (IsEnabled a) u w → ConeOthers (joined a b) (IsEnabled (joined a b)) (Left u) (Left w)
  left_others u w others = others_up a (joined a b) Left (replace_left a b) (left_part a b) some meets u w others

  pub right_others : (u w : ℕ) → ConeOthers b (IsEnabled b) u w → ConeOthers (joined a b) (IsEnabled (joined a b)) (Right u) (Right w)
  right_others u w others = others_up b (joined a b) Right (replace_right a b) (right_part a b) some meets u w others

  module _ (left right : List ℕ) (class : Either ℕ ℕ → ℕ) (starts : List (Start (Either ℕ ℕ))) (lefts rights : List (Start ℕ)) (both : AreStartsOfBoth starts lefts rights) where
    abbrev S : EventSide (Either ℕ ℕ)
    S = side_by_side a b left right class

    abbrev A : EventSide ℕ
    A = left_side a left class

    abbrev B : EventSide ℕ
    B = right_side b right class

    left_begin : (v : ℕ) → StartLatches A lefts v → StartLatches S starts (Left v)
    left_begin v h = (moved_start Left h.0, both.left h.0 h.1, cone_up a (joined a b) Left (replace_left a b) (left_part a b) some meets h.0.place v h.2, out_up a (joined a b) Left (replace_left a b) (left_part a b) some meets h.0.left_out v h.3)

    right_begin : (v : ℕ) → StartLatches B rights v → StartLatches S starts (Right v)
    right_begin v h = (moved_start Right h.0, both.right h.0 h.1, cone_up b (joined a b) Right (replace_right a b) (right_part a b) some meets h.0.place v h.2, out_up b (joined a b) Right (replace_right a b) (right_part a b) some meets h.0.left_out v h.3)

    -- a latch of the whole is reached in the one or in the other
    abbrev Side : List ℕ → Either ℕ ℕ → Type 0
    Side node r = ((v : ℕ) × (Left v ≡ r) × ReachedAt A (IsEnabled a) (StartLatches A lefts) node v) ⊎ ((v : ℕ) × (Right v ≡ r) × ReachedAt B (IsEnabled b) (StartLatches B rights) node v)

    begun_from : (r : Either ℕ ℕ) (y : Start (Either ℕ ℕ)) → ConeLatches (joined a b) y.place r → IsOther y.left_out r → ((x : Start ℕ) × Contains lefts x × (y ≡ moved_start Left x)) ⊎ ((x : Start ℕ) × Contains rights x × (y ≡ moved_start Right x)) → Side [] r
    begun_from r y cone other (inl (x, h, e)) =
        let v = cone_from a (joined a b) Left (replace_left a b) (left_part a b) some meets x.place r (subst (λ (z : Start (Either ℕ ℕ)). ConeLatches (joined a b) z.place r) e cone) in
        inl (v.0, v.1, (x, h, v.2, out_from a (joined a b) Left (replace_left a b) (left_part a b) some meets x.left_out v.0 (subst (IsOther (moved_out Left x.left_out)) (sym v.1) (subst (λ (z : Start (Either ℕ ℕ)). IsOther z.left_out r) e other))))
    begun_from r y cone other (inr (x, h, e)) =
        let v = cone_from b (joined a b) Right (replace_right a b) (right_part a b) some meets x.place r (subst (λ (z : Start (Either ℕ ℕ)). ConeLatches (joined a b) z.place r) e cone) in
        inr (v.0, v.1, (x, h, v.2, out_from b (joined a b) Right (replace_right a b) (right_part a b) some meets x.left_out v.0 (subst (IsOther (moved_out Right x.left_out)) (sym v.1) (subst (λ (z : Start (Either ℕ ℕ)). IsOther z.left_out r) e other))))

    reached_side : (node : List ℕ) (r : Either ℕ ℕ) → ReachedAt S (IsEnabled (joined a b)) (StartLatches S starts) node r → Side node r
    reached_side [] r h = begun_from r h.0 h.2 h.3 (both.all h.0 h.1)
    reached_side (k ∷ node) r h = go (reached_side node h.0 h.1)
      where
        go : Side node h.0 → Side (k ∷ node) r
        go (inl (u, e, t)) = inl (step_from a (joined a b) Left (replace_left a b) (left_part a b) some meets left (left ++ right) class u h.0 r k node (StartLatches A lefts) e t h.2 h.3)
        go (inr (u, e, t)) = inr (step_from b (joined a b) Right (replace_right a b) (right_part a b) some meets right (left ++ right) class u h.0 r k node (StartLatches B rights) e t h.2 h.3)

    node_side : (node : List ℕ) → IsNode S (IsEnabled (joined a b)) (StartLatches S starts) node → IsNode A (IsEnabled a) (StartLatches A lefts) node ⊎ IsNode B (IsEnabled b) (StartLatches B rights) node
    node_side [] h = inl tt
    node_side (k ∷ node) h = go (reached_side node h.0 h.1)
      where
        go : Side node h.0 → IsNode A (IsEnabled a) (StartLatches A lefts) (k ∷ node) ⊎ IsNode B (IsEnabled b) (StartLatches B rights) (k ∷ node)
        go (inl (u, e, t)) = inl (u, t, ap class e ∙ h.2)
        go (inr (u, e, t)) = inr (u, t, ap class e ∙ h.2)

    side_node : (node : List ℕ) → IsNode A (IsEnabled a) (StartLatches A lefts) node ⊎ IsNode B (IsEnabled b) (StartLatches B rights) node → IsNode S (IsEnabled (joined a b)) (StartLatches S starts) node
    side_node node (inl h) = node_up a (joined a b) Left (replace_left a b) (left_part a b) some meets left (left ++ right) class (StartLatches A lefts) (StartLatches S starts) left_begin node h
    side_node node (inr h) = node_up b (joined a b) Right (replace_right a b) (right_part a b) some meets right (left ++ right) class (StartLatches B rights) (StartLatches S starts) right_begin node h

    pub node_same : (node : List ℕ) → IsNode S (IsEnabled (joined a b)) (StartLatches S starts) node ↔ (IsNode A (IsEnabled a) (StartLatches A lefts) node ⊎ IsNode B (IsEnabled b) (StartLatches B rights) node)
    node_same node = (node_side node, side_node node)

pub sides_reach_nodes_in_nets : SidesReachNodes
sides_reach_nodes_in_nets a b m n left right f na nb starts lefts rights both node = node_same a b m n na nb left right f starts lefts rights both node

pub sides_have_variables_in_nets : SidesHaveVariables
sides_have_variables_in_nets a b m n left right f na nb long u variables = (
  λ are. variables_up a (joined a b) Left (replace_left a b) (left_part a b) (some a b m n na nb) (meets a b m n na nb) left (left ++ right) f (sides_unfold_in_nets a b m n left right f na nb long).0.trees u variables are,
  λ are. variables_up b (joined a b) Right (replace_right a b) (right_part a b) (some a b m n na nb) (meets a b m n na nb) right (left ++ right) f (sides_unfold_in_nets a b m n left right f na nb long).1.trees u variables are,
)

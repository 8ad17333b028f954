-- The leaves of a pair's event trees are inputs that the plain unfoldings of its sides visit.
use Rattle.std.proofs.Common.{◌≡◌, ◌++◌, ◌<◌, ℕ, suc, Bool, List, [], ◌∷◌, length, Option, refl, sym, ◌∙◌, subst, inl, inr}
use Rattle.std.specs.Prelude.{◌⊎◌}
use Rattle.std.specs.List.{All, Contains}
use Rattle.circuit_theory.specs.Circuit.{Circuit, IsLatch, Reads, Reaches}
use Rattle.circuit_theory.specs.Joined.{Either, Left, Right, joined}
use Rattle.circuit_theory.specs.Query.{Variable, HasLeaf, HasLeafIn}
use Rattle.circuit_theory.specs.Run.{IsEnabled}
use Rattle.circuit_theory.specs.Sizes.{Visits}
use Rattle.circuit_theory.specs.Tree.{Tree, Trees, IsInputNumber}
use Rattle.circuit_theory.proofs.Lists.{All-from_each, Contains-head, Contains-tail}
use Rattle.circuit_laws.proofs.JoinedParts.{joined_number, left_is_not_right, left_one, left_part, replace_left, replace_right, right_one, right_part}
use Rattle.circuit_laws.proofs.Parts.{IsPart, latch_from, reads_from}
use Rattle.circuit_theory.specs.EventFrames.{AreNodeVariables, IsCareTree, IsPairTree}
use Rattle.circuit_theory.specs.Frame.{EventSide, EventUnfolds, EventUnfoldsAll, ConeLatches, ReachedAt}
use Rattle.event_form.specs.event_findings.event_witness.Sequences.{HasInputsBelow}

module _ {P : Type 0} (side : EventSide P) (s : P) where
  -- an input of this number that the unfolding of s visits
  abbrev IsVisitedInput : ℕ → Type 0
  IsVisitedInput i = (q : P) × (k : ℕ) × Visits side.circuit s 0 q k × IsInputNumber side.circuit side.order q i

  mutual
    leaf_visited : {put : Option (P × Bool)} {p : P} {node : List ℕ} {tree : Tree (List ℕ)} → EventUnfolds side (IsEnabled side.circuit) put p node tree → (k : ℕ) → Visits side.circuit s 0 p k → (y : Variable (List ℕ)) → HasLeaf y tree → IsVisitedInput y.input
    leaf_visited (EventUnfolds.input {p = p} h) k there y HasLeaf.leaf = (p, k, there, h)
    leaf_visited (EventUnfolds.gate stands all) k there y (HasLeaf.inside h) = leaves_visited all k (λ q m. Visits.reads there (Reads.by_gate stands m)) y h
    leaf_visited (EventUnfolds.port stands rest) k there y h = leaf_visited rest k (Visits.reads there (Reads.by_port stands)) y h
    leaf_visited (EventUnfolds.plain latch free off rest) k there y h = leaf_visited rest (suc k) (Visits.back there latch) y h
    leaf_visited (EventUnfolds.held latch free enabled rest) k there y h = leaf_visited rest (suc k) (Visits.back there latch) y h
    leaf_visited (EventUnfolds.fixed {u = u} {bit = bit} {node = node}) k there y h = elim h [ ]

    leaves_visited : {put : Option (P × Bool)} {ps : List P} {node : List ℕ} {trees : Trees (List ℕ)} → EventUnfoldsAll side (IsEnabled side.circuit) put ps node trees → (k : ℕ) → ((q : P) → Contains ps q → Visits side.circuit s 0 q k) → (y : Variable (List ℕ)) →
        HasLeafIn y trees → IsVisitedInput y.input
    leaves_visited EventUnfoldsAll.none k each y h = elim h [ ]
    leaves_visited (EventUnfoldsAll.more {p = p} {ps = ps} first rest) k each y (HasLeafIn.first h) = leaf_visited first k (each p (Contains-head p ps)) y h
    leaves_visited (EventUnfoldsAll.more {p = p} {ps = ps} first rest) k each y (HasLeafIn.later h) = leaves_visited rest k (λ q m. each q (Contains-tail p q ps m)) y h

  reach_visited : {p u : P} (k : ℕ) → Visits side.circuit s 0 p k → Reaches side.circuit p u → Visits side.circuit s 0 u k
  reach_visited k there Reaches.here = there
  reach_visited k there (Reaches.there reads rest) = reach_visited k (Visits.reads there reads) rest

  -- a latch that is reached at an event node
  latch_visited : (node : List ℕ) (v : P) → ReachedAt side (IsEnabled side.circuit) (ConeLatches side.circuit s) node v → (k : ℕ) × Visits side.circuit s 0 v k
  latch_visited [] v h = (0, reach_visited 0 Visits.itself h.3)
  latch_visited (class ∷ node) v h = let u = latch_visited node h.0 h.1 in (suc u.0, reach_visited (suc u.0) (Visits.back u.1 h.3.2) h.3.3.3)

  care_visited : (tree : Tree (List ℕ)) → IsCareTree side (ConeLatches side.circuit s) tree → (y : Variable (List ℕ)) → HasLeaf y tree → IsVisitedInput y.input
  care_visited tree (IsCareTree.enable {node = node} {v = v} reached latch enabled unfolds) y h = let k = latch_visited node v reached in leaf_visited unfolds (suc k.0) (Visits.back k.1 latch) y h

-- each input that the unfolding of the place visits has a number below this one
abbrev AreInputsBelow : {P : Type 0} → EventSide P → ℕ → P → Type 0
AreInputsBelow {P} s count p = (q : P) (k i : ℕ) → Visits s.circuit p 0 q k → IsInputNumber s.circuit s.order q i → i < count

-- the variables of a pair are inputs of these numbers
inputs_within : {P : Type 0} (s : EventSide P) (p q : P) (count : ℕ) (variables : List (Variable (List ℕ))) → AreInputsBelow s count p → AreInputsBelow s count q → AreNodeVariables (IsPairTree s p q) variables →
    All (λ (x : Variable (List ℕ)). x.input < count) variables
inputs_within {P} s p q count variables left right are = All-from_each (λ (x : Variable (List ℕ)). x.input < count) variables (λ x h. let t = (are.exactly x).0 h in of_tree t.0 t.1 x t.2)
  where
    of_left : (x : Variable (List ℕ)) → IsVisitedInput s p x.input → x.input < count
    of_left x v = left v.0 v.1 x.input v.2 v.3

    of_right : (x : Variable (List ℕ)) → IsVisitedInput s q x.input → x.input < count
    of_right x v = right v.0 v.1 x.input v.2 v.3

    of_tree : (tree : Tree (List ℕ)) → IsPairTree s p q tree → (x : Variable (List ℕ)) → HasLeaf x tree → x.input < count
    of_tree tree (inl (inl unfolds)) x there = of_left x (leaf_visited s p unfolds 0 Visits.itself x there)
    of_tree tree (inl (inr unfolds)) x there = of_right x (leaf_visited s q unfolds 0 Visits.itself x there)
    of_tree tree (inr (inl care)) x there = of_left x (care_visited s p tree care x there)
    of_tree tree (inr (inr care)) x there = of_right x (care_visited s q tree care x there)

module _ {P R : Type 0} (c : Circuit P) (j : Circuit R) (f : P → R) (replace : (R → Bool) → (P → Bool) → R → Bool) (part : IsPart c j f replace) where
  -- what an unfolding visits in the whole it visits in the part
  visits_from : (p : P) {r : R} {k : ℕ} → Visits j (f p) 0 r k → (q : P) × (f q ≡ r) × Visits c p 0 q k
  visits_from p Visits.itself = (p, refl, Visits.itself)
  visits_from p (Visits.reads before step) =
      let x = visits_from p before in
      let y = reads_from c j f replace part step x.0 x.1 in
      (y.0, y.1, Visits.reads x.2 y.2)
  visits_from p (Visits.back {next = n} {name = name} before latch) =
      let x = visits_from p before in
      let y = latch_from c j f replace part name x.0 n (subst (λ z. IsLatch j name z n) (sym x.1) latch) in
      (y.0, y.2, Visits.back x.2 y.1)

-- the variables of a pair of two circuits side by side
pub pair_inputs_within : (a b : Circuit ℕ) (left right : List ℕ) (class : Either ℕ ℕ → ℕ) → length left ≡ length a.inputs → (p q count : ℕ) (variables : List (Variable (List ℕ))) → HasInputsBelow a left count p → HasInputsBelow b right count q →
    AreNodeVariables (IsPairTree (record { circuit = joined a b; order = left ++ right; class = class }) (Left p) (Right q)) variables → All (λ (x : Variable (List ℕ)). x.input < count) variables
pair_inputs_within a b left right class long p q count variables below_left below_right are = inputs_within (record { circuit = joined a b; order = left ++ right; class = class }) (Left p) (Right q) count variables of_left of_right are
  where
    Numbered : Either ℕ ℕ → ℕ → Type 0
    Numbered r i = ((u : ℕ) × (Left u ≡ r) × IsInputNumber a left u i) ⊎ ((v : ℕ) × (Right v ≡ r) × IsInputNumber b right v i)

    of_left : (r : Either ℕ ℕ) (k i : ℕ) → Visits (joined a b) (Left p) 0 r k → IsInputNumber (joined a b) (left ++ right) r i → i < count
    of_left r k i visits number = go (visits_from a (joined a b) Left (replace_left a b) (left_part a b) p visits) (joined_number a b left right long r i number)
      where
        go : (u : ℕ) × (Left u ≡ r) × Visits a p 0 u k → Numbered r i → i < count
        go x (inl y) = below_left x.0 k i x.2 (subst (λ u. IsInputNumber a left u i) (left_one y.0 x.0 (y.1 ∙ sym x.1)) y.2)
        go x (inr y) = absurd (left_is_not_right x.0 y.0 (x.1 ∙ sym y.1))

    of_right : (r : Either ℕ ℕ) (k i : ℕ) → Visits (joined a b) (Right q) 0 r k → IsInputNumber (joined a b) (left ++ right) r i → i < count
    of_right r k i visits number = go (visits_from b (joined a b) Right (replace_right a b) (right_part a b) q visits) (joined_number a b left right long r i number)
      where
        go : (v : ℕ) × (Right v ≡ r) × Visits b q 0 v k → Numbered r i → i < count
        go x (inl y) = absurd (left_is_not_right y.0 x.0 (y.1 ∙ sym x.1))
        go x (inr y) = below_right x.0 k i x.2 (subst (λ v. IsInputNumber b right v i) (right_one y.0 x.0 (y.1 ∙ sym x.1)) y.2)

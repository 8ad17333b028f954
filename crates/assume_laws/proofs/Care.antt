-- An assumption as a care that holds along every run that meets it, and by its tree.
use Rattle.std.proofs.Common.{◌≡◌, ℕ, zero, suc, ◌<◌, ◌≤◌, Bool, true, false, cond, List, [], ◌∷◌, length, map, refl, sym, ◌∙◌, ap, subst, arith, inl, inr}
use Rattle.std.specs.Prelude.{◌⊎◌, ◌==◌, ◌↔◌}
use Rattle.std.specs.List.{Contains}
use Rattle.std.proofs.lemmas.List.Elements.{All-contains}
use Rattle.circuit_theory.specs.Cover.{cover_value}
use Rattle.circuit_theory.specs.Circuit.{Circuit, Equation, Gate, Latch, Port, Named, IsInput, IsLatch, IsSingleDriven, Holds, Meets, out_of}
use Rattle.circuit_theory.specs.Tree.{Tree, Trees, Leaf, Branch, Nil, Cons, Unfolds, UnfoldsAll, IsInputNumber, StandsBeside, tree_value, tree_values}
use Rattle.circuit_theory.specs.Agree.{cut}
use Rattle.circuit_theory.specs.Net.{IsNet, IsAbove, IsDriven, HasDistinctNames}
use Rattle.circuit_theory.proofs.Inputs.{test_same, test_refl, beside_is_input}
use Rattle.circuit_theory.proofs.Lists.{Contains-head, Contains-tail}
use Rattle.circuit_theory.proofs.Numbers.{one_number}
use Rattle.circuit_laws.proofs.NetLaws.{fanin_below, net_value, net_value-source, net_value-meets}
use Rattle.circuit_laws.proofs.NetTrees.{has_number}
use Rattle.circuit_laws.proofs.event_laws.CutParts.{cut_own_input}
use Rattle.circuit_laws.proofs.reset_laws.ResetAgreement.{HoldsAlong}
use Rattle.assume_laws.specs.Assume.{Assumption, IsAssumption, RowMeets, RunMeets, ReadsInputs, PlaceUnfolds, PlaceUnfoldsAll}
use Rattle.assume_laws.specs.Laws.{RowMeetsByTree, RowsMeetInRuns}

-- a row meets it by the assumption's own inputs
pub row_same : (c : Assumption) (f g : ℕ → Bool) → ((p i : ℕ) → IsInputNumber c.circuit c.order p i → f i ≡ g i) → RowMeets c f → RowMeets c g
row_same c f g same meets v values reads = meets v values (λ p i k. reads p i k ∙ sym (same p i k))

-- each row of inputs of a run that meets it meets it
pub run_holds : {P : Type 0} (c : Assumption) (a : Circuit P) (order : List ℕ) → ReadsInputs c a order → (n : ℕ) (run : ℕ → P → Bool) → RunMeets c a n run → HoldsAlong (RowMeets c) a order n run
run_holds c a order reads n run meets t h row are v values inputs =
    meets t h v values (λ name p q hp hq.
    let number = has_number c.circuit.inputs c.order reads.each (record { name = name; place = p }) hp in
    inputs p number.0 number.1 ∙ are q number.0 (reads.numbered name p number.0 q hp hq number.1))

pub rows_meet_in_runs : RowsMeetInRuns
rows_meet_in_runs c a order reads rows last meet run takes t h v values inputs =
    meet t (omega arith) v values (λ p i k.
    let f = reads.found p i k in
    inputs f.0 p f.1 f.2 f.3 ∙ takes t f.1 i h f.4)

-- a run of the cut circuit with the same inputs meets it too
pub cut_meets : {P : Type 0} (c : Assumption) (names : List (List ℕ)) (a : Circuit P) (single : IsSingleDriven a) (distinct : HasDistinctNames a) (n : ℕ) (run other : ℕ → P → Bool) →
    ((t : ℕ) (p : P) → t < n → IsInput a p → run t p ≡ other t p) → RunMeets c a n run → RunMeets c (cut names a) n other
cut_meets c names a single distinct n run other same meets t h v values inputs =
    meets t h v values (λ name p q hp hq. inputs name p q hp (cut_own_input names a single distinct name q hq) ∙ sym (same t q h (name, hq)))

pub shorter_meets : {P : Type 0} (c : Assumption) (a : Circuit P) (n k : ℕ) (run : ℕ → P → Bool) → k ≤ n → RunMeets c a n run → RunMeets c a k run
shorter_meets c a n k run le meets t h = meets t (omega arith)

-- the number of a place, or 0
abbrev number_of : List (Named ℕ) → List ℕ → ℕ → ℕ
number_of [] order q = 0
number_of (m ∷ inputs) [] q = 0
number_of (m ∷ inputs) (j ∷ order) q = cond (m.place == q) j (number_of inputs order q)

number_found : (inputs : List (Named ℕ)) (order : List ℕ) (q i : ℕ) → StandsBeside inputs order q i → StandsBeside inputs order q (number_of inputs order q)
number_found [] order q i h = absurd h
number_found (m ∷ inputs) [] q i h = absurd h
number_found (m ∷ inputs) (j ∷ order) q i h = go (m.place == q) refl h (λ k. number_found inputs order q i k)
  where
    go : (b : Bool) → (m.place == q) ≡ b → ((m.place ≡ q) × (j ≡ i)) ⊎ StandsBeside inputs order q i → (StandsBeside inputs order q i → StandsBeside inputs order q (number_of inputs order q)) →
        StandsBeside (m ∷ inputs) (j ∷ order) q (number_of (m ∷ inputs) (j ∷ order) q)
    go true e k later = inl (test_same m.place q e, sym (ap (λ b. cond b j (number_of inputs order q)) e))
    go false e (inl x) later = absurd (let z : (m.place == q) ≡ true = subst (λ y. (m.place == y) ≡ true) x.0 (test_refl m.place) in cc)
    go false e (inr k) later = subst (StandsBeside (m ∷ inputs) (j ∷ order) q) (sym (ap (λ b. cond b j (number_of inputs order q)) e)) (inr (later k))

module _ (c : Assumption) (size : ℕ) (is : IsAssumption c size) (row : ℕ → Bool) where
  -- there are values for each row
  pub row_values : ℕ → Bool
  row_values = net_value c.circuit (λ p. row (number_of c.circuit.inputs c.order p))

  pub row_values-meets : Meets c.circuit row_values
  unfolding row_values
  row_values-meets = net_value-meets c.circuit size is.net (λ p. row (number_of c.circuit.inputs c.order p))

  pub row_values-inputs : (p i : ℕ) → IsInputNumber c.circuit c.order p i → row_values p ≡ row i
  unfolding row_values
  row_values-inputs p i h =
      net_value-source c.circuit size is.net (λ p. row (number_of c.circuit.inputs c.order p)) p (inl (beside_is_input c.circuit.inputs c.order p i h))
      ∙ ap row (one_number c.circuit.inputs c.order is.net.inputs p (number_of c.circuit.inputs c.order p) i (number_found c.circuit.inputs c.order p i h) h)

-- a tree at a place has the value of each signal under the row there
module _ {L : Type 0} (c : Circuit ℕ) (order : List ℕ) (at : L) (x : ℕ → L → Bool) (v : ℕ → Bool) (values : Meets c v) (inputs : (p i : ℕ) → IsInputNumber c order p i → v p ≡ x i at) where
  mutual
    unfolding tree_value

    pub place_value : {p : ℕ} {tree : Tree L} → PlaceUnfolds c order at p tree → tree_value x tree ≡ v p
    place_value {p} (PlaceUnfolds.input {i = i} h) = sym (inputs p i h)
    place_value (PlaceUnfolds.gate {cover = cover} eq each) = ap (cover_value cover) (place_values each) ∙ sym (All-contains (Holds v) c.equations _ values eq)
    place_value (PlaceUnfolds.port eq rest) = place_value rest ∙ sym (All-contains (Holds v) c.equations _ values eq)

    place_values : {ps : List ℕ} {trees : Trees L} → PlaceUnfoldsAll c order at ps trees → tree_values x trees ≡ map v ps
    place_values PlaceUnfoldsAll.none = refl
    place_values (PlaceUnfoldsAll.more one rest) = let head = place_value one in let tail = place_values rest in cc

-- without latches the plain unfolding at a shift is that at the place
module _ (c : Circuit ℕ) (order : List ℕ) (gates : (name : List ℕ) (u next : ℕ) → IsLatch c name u next → ⊥) where
  mutual
    pub unfolds_place : {p k d : ℕ} {tree : Tree ℕ} → Unfolds c order p k d tree → PlaceUnfolds c order k p tree
    unfolds_place (Unfolds.input h) = PlaceUnfolds.input h
    unfolds_place (Unfolds.gate eq each) = PlaceUnfolds.gate eq (all_place each)
    unfolds_place (Unfolds.port eq rest) = PlaceUnfolds.port eq (unfolds_place rest)
    unfolds_place (Unfolds.latch {name = name} {out = out} {next = next} eq rest) = absurd (gates name out next eq)

    all_place : {ps : List ℕ} {k d : ℕ} {trees : Trees ℕ} → UnfoldsAll c order ps k d trees → PlaceUnfoldsAll c order k ps trees
    all_place UnfoldsAll.none = PlaceUnfoldsAll.none
    all_place (UnfoldsAll.more one rest) = PlaceUnfoldsAll.more (unfolds_place one) (all_place rest)

pub tree_meets : {L : Type 0} (c : Assumption) (size : ℕ) → IsAssumption c size → (at : L) (tree : Tree L) (x : ℕ → L → Bool) → PlaceUnfolds c.circuit c.order at c.output tree → (tree_value x tree ≡ true) ↔ RowMeets c (λ i. x i at)
tree_meets c size is at tree x unfolds = (
  λ e v values reads. sym (place_value c.circuit c.order at x v values reads unfolds) ∙ e,
  λ meets.
      place_value c.circuit c.order at x (row_values c size is (λ i. x i at)) (row_values-meets c size is (λ i. x i at)) (row_values-inputs c size is (λ i. x i at)) unfolds
      ∙ meets (row_values c size is (λ i. x i at)) (row_values-meets c size is (λ i. x i at)) (row_values-inputs c size is (λ i. x i at)),
)

pub row_meets_by_tree : RowMeetsByTree
row_meets_by_tree c size is = (
  λ k d tree x unfolds. tree_meets c size is k tree x (unfolds_place c.circuit c.order is.gates unfolds),
  λ k tree x unfolds. tree_meets c size is k tree x unfolds,
  λ node tree bits unfolds. tree_meets c size is node tree bits unfolds,
)

-- the assumption has a tree at each place
module _ {L : Type 0} (c : Circuit ℕ) (size : ℕ) (net : IsNet c size) (gates : (name : List ℕ) (u next : ℕ) → IsLatch c name u next → ⊥) (order : List ℕ) (numbered : length order ≡ length c.inputs) (at : L) where
  abbrev HasTree : ℕ → Type 0
  HasTree p = (tree : Tree L) × PlaceUnfolds c order at p tree

  trees_of : (ps : List ℕ) → ((p : ℕ) → Contains ps p → HasTree p) → (trees : Trees L) × PlaceUnfoldsAll c order at ps trees
  trees_of [] each = (Nil, PlaceUnfoldsAll.none)
  trees_of (p ∷ ps) each =
      let first = each p (Contains-head p ps) in
      let rest = trees_of ps (λ q h. each q (Contains-tail p q ps h)) in
      (Cons first.0 rest.0, PlaceUnfoldsAll.more first.1 rest.1)

  by_driver : (s : ℕ) → ((f : ℕ) → f < s → HasTree f) → (e : Equation ℕ) → Contains c.equations e → out_of e ≡ s → HasTree s
  by_driver s lower (Port out from) h q = absurd (All-contains IsAbove c.equations (Port out from) net.above h)
  by_driver s lower (Latch name out next) h q = absurd (gates name out next h)
  by_driver s lower (Gate out fanins cover) h q =
      let gate : Contains c.equations (Gate s fanins cover) = subst (λ p. Contains c.equations (Gate p fanins cover)) q h in
      let trees = trees_of fanins (λ f m. lower f (fanin_below c size net s fanins cover gate f m)) in
      (Branch cover trees.0, PlaceUnfolds.gate gate trees.1)

  by_net : (s : ℕ) → ((f : ℕ) → f < s → HasTree f) → IsDriven c s → HasTree s
  by_net s lower (inl i) = let n = has_number c.inputs order numbered (record { name = i.0; place = s }) i.1 in (Leaf n.0 at, PlaceUnfolds.input n.1)
  by_net s lower (inr e) = by_driver s lower e.0 e.1 e.2

  pub tree_below : (bound s : ℕ) → s < bound → s < size → HasTree s
  tree_below zero s h l = absurd (omega arith)
  tree_below (suc bound) s h l = by_net s (λ f k. tree_below bound f (omega arith) (omega arith)) (net.driven s l)

pub place_tree : {L : Type 0} (c : Assumption) (size : ℕ) → IsAssumption c size → (at : L) → (tree : Tree L) × PlaceUnfolds c.circuit c.order at c.output tree
place_tree c size is at = tree_below c.circuit size is.net is.gates c.order is.each at (suc c.output) c.output (omega arith) is.output

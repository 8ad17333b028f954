-- The functions of two ands have two variables, so that no limit is told of them.
use Rattle.std.proofs.Common.{◌≡◌, ◌∙◌, ℕ, ◌<◌, ◌≤◌, List, [], ◌∷◌, ◌++◌, map, length, get_or, slice_get, Option, Some, sym, ap, ap₂, subst, arith, inl, inr}
use Rattle.std.specs.Prelude.{◌⊎◌, codes}
use Rattle.std.specs.List.{AllPairs, Contains}
use Rattle.std.proofs.lemmas.List.{length-map}
use Rattle.std.proofs.lemmas.Option.{get_or_from_slice_get, slice_get_within}
use Rattle.circuit_theory.specs.Agree.{cut}
use Rattle.circuit_theory.specs.Circuit.{Circuit, Named, IsLatch}
use Rattle.circuit_theory.specs.Flattened.{latch_names}
use Rattle.circuit_theory.specs.Interface.{Ports, AreNumbersOf, shared_inputs}
use Rattle.circuit_theory.specs.Query.{Variable, HasLeaf, ShiftBefore}
use Rattle.circuit_theory.specs.Sizes.{Visits}
use Rattle.circuit_theory.specs.Tree.{Tree, Unfolds}
use Rattle.circuit_theory.proofs.Lists.{Contains-cases, Contains-map, at_of, of_at, map-map, map_at}
use Rattle.circuit_theory.proofs.Numbers.{slice_get-map, beside_at}
use Rattle.circuit_laws.proofs.LeafVisits.{leaf_visits}
use Rattle.circuit_laws.proofs.Onward.{cut_input}
use Rattle.base_tables.specs.Table.{AreDistinct}
use Rattle.flat_net.specs.Cut.{IsCutCircuit}
use Rattle.flat_net.specs.View.{NetView, named, circuit_of, ports_of}
use Rattle.flat_net.proofs.CutNets.{few_distinct}
use Rattle.pair_decide.specs.declared.query.Proof.{Proof}
use Rattle.sec_base.specs.declared.settings.Settings.{Settings}
use Rattle.sec_setup.specs.Cuts.{columns_of}
use Rattle.sec_setup.proofs.CutNets.{same_as_cut, cut_numbers}
use Rattle.sec_setup.proofs.SameEquations.{same_tree}
use Rattle.pair_texts.specs.check_texts.Texts.{TextsUndecided}
use Rattle.pair_texts.specs.design_rows.Designs as design
use Rattle.pair_texts.specs.design_rows.Small.{small_and, IsSmall}
use Rattle.premise_rows.specs.RuledOut.{AndsMeetNoLimit}
use Rattle.pair_texts.specs.design_rows.Texts.{on_and, off_and}
use Rattle.pair_texts.proofs.design_rows.Spelling.{net_is_small, ports_are}
use Rattle.pair_texts.proofs.design_rows.SpelledTexts.{on_and_spells, off_and_spells}
use Rattle.pair_texts.proofs.check_texts.Latchless.{cut_latchless, visits_now, none_chosen}

none_in : {X : Type 0} (x : X) → Contains [] x → ⊥
none_in x h = let l = h.1 in omega (arith, l)

some_is : {X : Type 0} {x y : X} → Some x ≡ Some y → x ≡ y
some_is q = cc

-- A net without latches, cut at no name: a leaf of its trees is one of the columns, now.
module _ (n m : NetView) (names : List (List ℕ)) (is : IsCutCircuit names (circuit_of n) (circuit_of m)) (none : names ≡ []) (no_latch : latch_names (circuit_of n).equations ≡ []) (columns : List (List ℕ))
    (own others : List ℕ) (numbers : AreNumbersOf (ports_of m).inputs columns own others) (all : (name : List ℕ) → Contains (ports_of n).inputs name → Contains columns name) where
  abbrev c : Circuit ℕ
  c = cut names (circuit_of n)

  is_column : (name : List ℕ) (p : ℕ) → Contains (cut names (circuit_of n)).inputs (record { name = name; place = p }) → Contains columns name
  is_column name p h = by (cut_input names (circuit_of n) name p h)
    where
      by : Contains (circuit_of n).inputs (record { name = name; place = p }) ⊎ (Contains names name × ((next : ℕ) × IsLatch (circuit_of n) name p next)) → Contains columns name
      by (inl k) =
          all name (subst (λ (ns : List (List ℕ)). Contains ns name) (map-map (λ (i : Named ℕ). i.name) named n.inputs) (Contains-map (λ (i : Named ℕ). i.name) (circuit_of n).inputs (record { name = name; place = p }) k))
      by (inr l) = absurd (none_in name (subst (λ (ns : List (List ℕ)). Contains ns name) none l.0))

  leaf_is_low : (p d : ℕ) (tree : Tree ℕ) → Unfolds (circuit_of m) own p 0 d tree → (x : Variable ℕ) → HasLeaf x tree → (x.at ≡ 0) × (x.input < length columns)
  leaf_is_low p d tree unfolds x found =
      let v = leaf_visits (cut names (circuit_of n)) own p 0 x (same_tree (circuit_of m) (cut names (circuit_of n)) (same_as_cut names (circuit_of n) (circuit_of m) is) unfolds) Visits.itself found in
      let k = beside_at (cut names (circuit_of n)).inputs own v.0 x.input v.1 in
      let at = at_of columns k.1.name (is_column k.1.name k.1.place (of_at (cut names (circuit_of n)).inputs k.0 k.1 k.2)) in
      let number : slice_get own k.0 ≡ Some at.0 = (cut_numbers names columns own others n m is numbers).common k.0 at.0 k.1.name (slice_get-map (λ (i : Named ℕ). i.name) (cut names (circuit_of n)).inputs k.0 k.1 k.2) at.1 in
      let same : at.0 ≡ x.input = some_is (sym number ∙ k.4) in
      (visits_now (cut names (circuit_of n)) (cut_latchless names (circuit_of n) no_latch) v.2, subst (λ (i : ℕ). i < length columns) same (slice_get_within columns at.0 k.1.name at.1))

-- variables in their order, all of them now, are distinct
module _ (variables : List (Variable ℕ)) (ordered : AllPairs ShiftBefore variables) (at_now : (x : Variable ℕ) → Contains variables x → x.at ≡ 0) where
  apart : (i j : ℕ) (x y : Variable ℕ) → i < j → slice_get variables i ≡ Some x → slice_get variables j ≡ Some y → x.input ≡ y.input → ⊥
  apart i j x y low hi hj same =
      let before : ShiftBefore x y =
      subst (λ (z : Variable ℕ). ShiftBefore z y) (get_or_from_slice_get variables i x x hi) (subst (λ (z : Variable ℕ). ShiftBefore (get_or variables i x) z) (get_or_from_slice_get variables j y x hj) (ordered i j x low (slice_get_within variables j y hj))) in
      let own = at_now x (of_at variables i x hi) in
      let other = at_now y (of_at variables j y hj) in
      elim before [ inl l ↦ omega (arith, l, own, other) | inr r ↦ (let l = r.1 in omega (arith, l, same)) ]

  inputs_distinct : AreDistinct (map (λ (x : Variable ℕ). x.input) variables)
  inputs_distinct i j input hi hj = by (order i j)
    where
      order : (i j : ℕ) → (i ≡ j) ⊎ ((i < j) ⊎ (j < i))
      order i j = grind arith

      by : (i ≡ j) ⊎ ((i < j) ⊎ (j < i)) → i ≡ j
      by (inl e) = e
      by (inr (inl l)) =
          let x = map_at (λ (x : Variable ℕ). x.input) variables i input hi in
          let y = map_at (λ (x : Variable ℕ). x.input) variables j input hj in
          absurd (apart i j x.0 y.0 l x.1 y.1 (x.2 ∙ sym y.2))
      by (inr (inr l)) =
          let x = map_at (λ (x : Variable ℕ). x.input) variables i input hi in
          let y = map_at (λ (x : Variable ℕ). x.input) variables j input hj in
          absurd (apart j i y.0 x.0 l y.1 x.1 (y.2 ∙ sym x.2))

  few_variables : (size : ℕ) → ((x : Variable ℕ) → Contains variables x → x.input < size) → length variables ≤ size
  few_variables size low =
      subst (λ (k : ℕ). k ≤ size) (length-map variables (λ (x : Variable ℕ). x.input))
      (few_distinct (map (λ (x : Variable ℕ). x.input) variables) size inputs_distinct
      (λ i s at. (let x = map_at (λ (x : Variable ℕ). x.input) variables i s at in subst (λ (k : ℕ). k < size) x.2 (low x.0 (of_at variables i x.0 x.1)))))

module _ (settings : Settings) (proofs : List Proof) (before now : Option (List ℕ)) (u : TextsUndecided on_and off_and settings proofs before now) where
  left : IsSmall small_and u.left_net
  left = net_is_small on_and design.on_and small_and on_and_spells u.left_net u.left_loads

  right : IsSmall (record small_and { weight = 9 }) u.right_net
  right = net_is_small off_and design.off_and (record small_and { weight = 9 }) off_and_spells u.right_net u.right_loads

  abbrev names : List (List ℕ)
  names = u.outcome.exposed

  unexposed : names ≡ []
  unexposed = none_chosen u.left_net u.right_net left.latches settings.expose names u.exposed

  abbrev columns : List (List ℕ)
  columns = columns_of u.left_net u.right_net names

  columns_are : columns ≡ codes "a" ∷ codes "b" ∷ []
  columns_are =
      ap₂ (λ (p q : Ports). shared_inputs p q ++ names) (ports_are small_and u.left_net left) (ports_are (record small_and { weight = 9 }) u.right_net right)
      ∙ ap (λ (ns : List (List ℕ)). (codes "a" ∷ codes "b" ∷ []) ++ ns) unexposed

  left_all : (name : List ℕ) → Contains (ports_of u.left_net).inputs name → Contains columns name
  left_all name h = subst (λ (ns : List (List ℕ)). Contains ns name) (left.inputs ∙ sym columns_are) h

  right_all : (name : List ℕ) → Contains (ports_of u.right_net).inputs name → Contains columns name
  right_all name h = subst (λ (ns : List (List ℕ)). Contains ns name) (right.inputs ∙ sym columns_are) h

  -- each variable is one of the columns, now
  low : (x : Variable ℕ) → Contains u.undecided.variables x → (x.at ≡ 0) × (x.input < length columns)
  low x h = let t = (u.undecided.are_variables.exactly x).0 h in by t.0 t.2 (Contains-cases u.undecided.left_tree t.0 (u.undecided.right_tree ∷ []) t.1)
    where
      by_right : (tree : Tree ℕ) → HasLeaf x tree → (u.undecided.right_tree ≡ tree) ⊎ Contains [] tree → (x.at ≡ 0) × (x.input < length columns)
      by_right tree found (inl same) =
          leaf_is_low u.right_net u.right_cut names u.are_cut.right_circuit unexposed right.latches columns u.right u.left u.right_numbers right_all u.named.right u.undecided.right_unfolds.0 u.undecided.right_tree u.undecided.right_unfolds.1 x
          (subst (HasLeaf x) (sym same) found)
      by_right tree found (inr none) = absurd (none_in tree none)

      by : (tree : Tree ℕ) → HasLeaf x tree → (u.undecided.left_tree ≡ tree) ⊎ Contains (u.undecided.right_tree ∷ []) tree → (x.at ≡ 0) × (x.input < length columns)
      by tree found (inl same) =
          leaf_is_low u.left_net u.left_cut names u.are_cut.left_circuit unexposed left.latches columns u.left u.right u.left_numbers left_all u.named.left u.undecided.left_unfolds.0 u.undecided.left_tree u.undecided.left_unfolds.1 x
          (subst (HasLeaf x) (sym same) found)
      by tree found (inr k) = by_right tree found (Contains-cases u.undecided.right_tree tree [] k)

  no_limit : ⊥
  no_limit =
      let few = few_variables u.undecided.variables u.undecided.are_variables.in_order (λ x h. (low x h).0) (length columns) (λ x h. (low x h).1) in
      let two : length columns ≡ 2 = ap length columns_are in
      let many = u.undecided.many in
      omega (arith, few, two, many)

pub ands_meet_no_limit : AndsMeetNoLimit
ands_meet_no_limit settings proofs before now u = no_limit settings proofs before now u

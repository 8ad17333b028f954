-- Under the assumption the comparison isn't too large: its two functions read inputs of one cycle alone.
use Rattle.std.proofs.Common.{◌≡◌, ◌∙◌, ℕ, ◌+◌, ◌*◌, ◌<◌, ◌≤◌, Bool, false, List, [], ◌∷◌, ◌++◌, length, Option, Some, None, sym, ap, subst, arith, inl, inr}
use Rattle.std.specs.Prelude.{◌≢◌, ◌⊎◌}
use Rattle.std.specs.List.{AllPairs, AllZip, Contains, sum_by, filter_map}
use Rattle.circuit_theory.specs.Agree.{cut, place_named}
use Rattle.circuit_theory.specs.Circuit.{Circuit, Named, IsLatch}
use Rattle.circuit_theory.specs.Query.{HasLeaf}
use Rattle.circuit_theory.specs.Sizes.{Visits}
use Rattle.circuit_theory.specs.Tree.{Tree}
use Rattle.circuit_theory.proofs.Lists.{Contains-head, Contains-tail, Contains-cases, length-map, only}
use Rattle.circuit_laws.proofs.LeafVisits.{leaf_visits}
use Rattle.flat_net.specs.declared.parts.Port.{Port}
use Rattle.flat_net.specs.View.{NetView, named, circuit_of}
use Rattle.witness_report.specs.declared.witness.PairName.TheVariants as pair
use Rattle.sec_base.specs.declared.settings.Settings.{Settings}
use Rattle.sec_setup.specs.ports.Pairs.{NamedPair, named_pairs, pair_called}
use Rattle.plain_check.specs.under_base.compare_base.Compared.{ByReset}
use Rattle.assume_laws.specs.Assume.{HasVariableAt}
use Rattle.assume_laws.specs.declared.assume_shape.shape.ShapeFault.{ShapeFault}
use Rattle.assume_laws.specs.declared.assume_shape.shape.ShapeFault.TheVariants as fault
use Rattle.plain_check.specs.under_base.under_fits.Places.{IsReadAt, ArePairPlaces, IsOverAtPairs}
use Rattle.plain_check.specs.under_base.Sizes.{IsOverCut, IsOverFromReset, IsTooLargeUnder}
use Rattle.pair_texts.specs.design_rows.Small.{IsSmall, small_and}
use Rattle.pair_texts.proofs.check_texts.Latchless.{cut_latchless, visits_now, none_chosen}
use Rattle.premise_rows.specs.event_assume_rows.assume_rows.SameInputs.{small_or, small_same}
use Rattle.premise_rows.proofs.event_assume_rows.assume_rows.Shape.{weighs_few}

-- distinct places, all of them 0
one_place : (ks : List ℕ) → AllPairs (λ j k. j ≢ k) ks → ((k : ℕ) → Contains ks k → k ≡ 0) → length ks ≤ 1
one_place [] distinct zeros = omega arith
one_place (k ∷ []) distinct zeros = omega arith
one_place (k ∷ m ∷ ks) distinct zeros =
    let first : k ≡ 0 = zeros k (Contains-head k (m ∷ ks)) in
    let second : m ≡ 0 = zeros m (Contains-tail k m (m ∷ ks) (Contains-head m ks)) in
    absurd (distinct 0 1 0 (omega arith) (omega arith) (first ∙ sym second))

few_kept : {X Y : Type 0} (f : X → Option Y) (xs : List X) → length xs ≤ 1 → length (filter_map f xs ++ []) ≤ 1
few_kept f [] few = omega arith
few_kept {X} {Y} f (x ∷ []) few = by (f x)
  where
    by : (y : Option Y) → length (filter_map (λ (z : X). y) (x ∷ []) ++ []) ≤ 1
    by None = omega arith
    by (Some y) = omega arith
few_kept f (x ∷ y ∷ xs) few = absurd (omega (arith, few))

pub few_pairs : (c d : Circuit ℕ) → length c.outputs ≤ 1 → length (named_pairs [] c d) ≤ 1
few_pairs c d few = few_kept (λ (o : Named ℕ). pair_called (pair.Output o.name) (Some o.place) (place_named d.outputs o.name)) c.outputs few

-- the weight of an assumption at one place at most
once : (weight : ℕ) (ks : List ℕ) → length ks ≤ 1 → weight < 10 → weight * length ks < 10
once weight [] few light = omega arith
once weight (k ∷ []) few light = omega (arith, light)
once weight (k ∷ m ∷ ks) few light = absurd (omega (arith, few))

-- a variable of two trees is a leaf of one of them
pub leaf_of_either : (l r : Tree ℕ) (k : ℕ) (v : HasVariableAt l r k) → HasLeaf (record { input = v.1; at = k }) l ⊎ HasLeaf (record { input = v.1; at = k }) r
leaf_of_either l r k (tree, i, one, h) = go (Contains-cases l tree (r ∷ []) one)
  where
    go : (l ≡ tree) ⊎ Contains (r ∷ []) tree → HasLeaf (record { input = i; at = k }) l ⊎ HasLeaf (record { input = i; at = k }) r
    go (inl e) = inl (subst (HasLeaf (record { input = i; at = k })) (sym e) h)
    go (inr m) = inr (subst (HasLeaf (record { input = i; at = k })) (sym (only r tree m)) h)

module _ (c d : Circuit ℕ) (left : (name : List ℕ) (u next : ℕ) → IsLatch c name u next → ⊥) (right : (name : List ℕ) (u next : ℕ) → IsLatch d name u next → ⊥) (own others : List ℕ) where
  read_now : (x : NamedPair ℕ ℕ) (k : ℕ) → IsReadAt c d own others x k → k ≡ 0
  read_now x k r = by (leaf_of_either r.left_tree r.right_tree k r.read)
    where
      by : HasLeaf (record { input = r.read.1; at = k }) r.left_tree ⊎ HasLeaf (record { input = r.read.1; at = k }) r.right_tree → k ≡ 0
      by (inl h) = let v = leaf_visits c own x.left 0 (record { input = r.read.1; at = k }) r.left_unfolds Visits.itself h in visits_now c left v.2
      by (inr h) = let v = leaf_visits d others x.right 0 (record { input = r.read.1; at = k }) r.right_unfolds Visits.itself h in visits_now d right v.2

  own_few : (pairs : List (NamedPair ℕ ℕ)) (each : List (List ℕ)) → length pairs ≤ 1 → AllZip (ArePairPlaces c d own others) pairs each → sum_by length each ≤ 1
  own_few [] [] few zip = omega arith
  own_few [] (ks ∷ each) few zip = absurd zip
  own_few (x ∷ pairs) [] few zip = absurd zip
  own_few (x ∷ []) (ks ∷ []) few zip =
      let one : length ks ≤ 1 = one_place ks zip.0.distinct (λ k h. read_now x k ((zip.0.exactly k).0 h)) in
      let sum : 0 + length ks ≤ 1 = omega (arith, one) in
      sum
  own_few (x ∷ []) (ks ∷ ms ∷ each) few zip = absurd zip.1
  own_few (x ∷ y ∷ pairs) (ks ∷ each) few zip = absurd (omega (arith, few))

  not_over : (weight : ℕ) (pairs : List (NamedPair ℕ ℕ)) → weight < 10 → length pairs ≤ 1 → IsOverAtPairs weight c d own others pairs → ⊥
  not_over weight pairs light few o =
      let all : weight * length o.all < 10 = once weight o.all (one_place o.all o.places.distinct (λ k h. (let x = (o.places.exactly k).0 h in read_now x.0 k x.2))) light in
      let each : sum_by length o.own ≤ 1 = own_few pairs o.own few o.places.each in
      let over : 2000000 < weight * length o.all + sum_by length o.own = o.over in
      omega (arith, all, each, over)

module _ (a b c : NetView) (left : IsSmall small_and a) (right : IsSmall small_or b) (small : IsSmall small_same c) where
  one_output : length (circuit_of a).outputs ≤ 1
  one_output =
      let count : length (circuit_of a).outputs ≡ 1 = length-map named a.outputs ∙ sym (length-map (λ (p : Port). p.name) a.outputs) ∙ ap length left.outputs in
      omega (arith, count)

  not_over_cut : (expose : Bool) (weight : ℕ) → weight < 10 → IsOverCut a b expose weight → ⊥
  not_over_cut expose weight light o =
      not_over (cut [] (circuit_of a)) (cut [] (circuit_of b)) (cut_latchless [] (circuit_of a) left.latches) (cut_latchless [] (circuit_of b) right.latches) o.left o.right weight (named_pairs [] (circuit_of a) (circuit_of b)) light
      (few_pairs (circuit_of a) (circuit_of b) one_output)
      (subst (λ (names : List (List ℕ)). IsOverAtPairs weight (cut names (circuit_of a)) (cut names (circuit_of b)) o.left o.right (named_pairs names (circuit_of a) (circuit_of b)))
      (none_chosen a b left.latches expose o.names o.choice) o.over)

  pub not_too_large : (settings : Settings) (f : ShapeFault) → settings.reset ≡ false → IsTooLargeUnder a b c settings f → ⊥
  not_too_large settings fault.TooLarge settling (met, broken, over) =
      not_over_cut settings.expose met.assumed.weight (weighs_few c small met.assumed.shape.output met.assumed.shape.outputs met.assumed.weight met.assumed.weighs)
      (subst (λ (reset : Bool). ByReset reset (IsOverCut a b settings.expose met.assumed.weight) (IsOverFromReset a b met.assumed.weight)) settling over)
  not_too_large settings (fault.Latch name) settling h = h
  not_too_large settings (fault.Outputs count) settling h = h
  not_too_large settings (fault.Input name) settling h = h

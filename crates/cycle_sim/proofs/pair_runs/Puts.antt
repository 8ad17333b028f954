-- What a cycle shows, pair by pair.
use Rattle.std.proofs.Common.{◌≡◌, ◌∙◌, ◌+◌, ℕ, Bool, true, false, cond, List, [], ◌∷◌, ◌++◌, map, length, set, slice_get, Some, Option, inl, inr, ◌⊎◌, refl, sym, ap, arith, append_assoc, length-append, length-set}
use Rattle.std.proofs.lemmas.List.{map-append, append-nil}
use Rattle.std.proofs.lemmas.Option.{none-some, get_or_from_slice_get, slice_get_within, same_Some}
use Rattle.circuit_theory.specs.Replay.{Difference as PlacedDifference}
use Rattle.circuit_theory.proofs.Numbers.{slice_get-map}
use Rattle.cycle_sim.specs.View.{MarkedView}
use Rattle.witness_report.specs.declared.witness.PairName.{PairName}
use Rattle.witness_report.specs.declared.witness.PairName.TheVariants as pair
use Rattle.cycle_sim.specs.declared.pair_runs.differences.Difference.{Difference}
use Rattle.cycle_sim.specs.declared.pair_runs.differences.OutputPair.{OutputPair}
use Rattle.cycle_sim.specs.declared.pair_runs.shown.Shown.{Shown}
use Rattle.cycle_sim.specs.pair_runs.Listing.{is_difference, differences_in, first_with}
use Rattle.cycle_sim.specs.pair_runs.Showing.{IsShown, as_pair, called, names_of, PutsSome}
use Rattle.cycle_sim.proofs.pair_runs.Listed.{in_more}
use Rattle.cycle_sim.proofs.Lists.{set_here, set_there}
use Rattle.cycle_sim.proofs.pair_runs.Places.{pushed_at, each_more}

-- the difference of one pair under its name
called_if : (names : List PairName) (cycle k : ℕ) (name : PairName) (s : Shown) → slice_get names k ≡ Some name → (b : Bool) →
    map (called names) (cond b ((record { cycle = cycle; pair = k; left = s.left; right = s.right }) ∷ []) []) ≡ cond b ((record { cycle = cycle; pair = name; left = s.left; right = s.right }) ∷ []) []
called_if names cycle k name s at true = ap (λ (n : PairName). (record { cycle = cycle; pair = n; left = s.left; right = s.right }) ∷ []) (get_or_from_slice_get names k name (pair.Output []) at)
called_if names cycle k name s at false = refl

called_one : (names : List PairName) (cycle k : ℕ) (name : PairName) (s : Shown) → slice_get names k ≡ Some name → map (called names) (differences_in cycle k (s ∷ [])) ≡ as_pair cycle name s
called_one names cycle k name s at = called_if names cycle k name s at (is_difference s)

-- before the first pair
pub puts_none : (l r : MarkedView) (pairs : List OutputPair) (cycle : ℕ) (old : List Difference) (firsts : List (Option ℕ)) → PutsSome l r pairs cycle 0 old old firsts firsts
puts_none l r pairs cycle old firsts = record {
  shown = [];
  each = refl;
  right = λ j p s at_p at_s. absurd (none-some s at_s);
  found_is = sym (append-nil old);
  size = refl;
  noted_are = λ j s first at_s at. absurd (none-some s at_s);
  others = λ j first h at. at;
}

-- one pair more
pub puts_more : (l r : MarkedView) (pairs : List OutputPair) (cycle count : ℕ) (old mid new : List Difference) (firsts noted : List (Option ℕ)) (first : Option ℕ) (p : OutputPair) (s : Shown) → slice_get pairs count ≡ Some p →
    slice_get noted count ≡ Some first → PutsSome l r pairs cycle count old mid firsts noted → IsShown l r p s → new ≡ mid ++ as_pair cycle p.name s → PutsSome l r pairs cycle (count + 1) old new firsts (set noted count (first_with first cycle s))
puts_more l r pairs cycle count old mid new firsts noted first p s at at_first before is grown = record {
  shown = before.shown ++ s ∷ [];
  each = let a = length-append before.shown (s ∷ []) in let e = before.each in omega (arith, a, e);
  right = each_more (λ (j : ℕ) (q : OutputPair) (x : Shown). IsShown l r q x) pairs before.shown p s (ap (slice_get pairs) before.each ∙ at) is before.right;
  found_is =
      grown ∙ (ap (λ ds. ds ++ as_pair cycle p.name s) before.found_is
      ∙ (append_assoc old (map call (differences_in cycle 0 before.shown)) (as_pair cycle p.name s)
      ∙ ap (λ ds. old ++ ds) (ap (λ ds. map call (differences_in cycle 0 before.shown) ++ ds) (sym (called_one (names_of pairs) cycle (0 + length before.shown) p.name s here))
      ∙ (sym (map-append call (differences_in cycle 0 before.shown) (differences_in cycle (0 + length before.shown) (s ∷ []))) ∙ ap (map call) (sym (in_more cycle 0 before.shown s))))));
  size = length-set noted count (first_with first cycle s) ∙ before.size;
  noted_are = λ j x old_first at_x at_old. go j x old_first at_old (pushed_at before.shown s j x at_x);
  others = λ j old_first h at_old. set_there noted count j (first_with first cycle s) old_first (λ e. omega (arith, e, h)) (before.others j old_first (omega (arith, h)) at_old);
}
  where
    call : PlacedDifference → Difference
    call = called (names_of pairs)

    here : slice_get (names_of pairs) (0 + length before.shown) ≡ Some p.name
    here = ap (slice_get (names_of pairs)) (let e = before.each in omega (arith, e)) ∙ slice_get-map (λ (q : OutputPair). q.name) pairs count p at

    go : (j : ℕ) (x : Shown) (old_first : Option ℕ) → slice_get firsts j ≡ Some old_first → (slice_get before.shown j ≡ Some x) ⊎ ((j ≡ length before.shown) × (s ≡ x)) →
        slice_get (set noted count (first_with first cycle s)) j ≡ Some (first_with old_first cycle x)
    go j x old_first at_old (inl there) =
        let w = slice_get_within before.shown j x there in
        let e = before.each in
        set_there noted count j (first_with first cycle s) (first_with old_first cycle x) (λ q. omega (arith, w, e, q)) (before.noted_are j x old_first there at_old)
    go j x old_first at_old (inr last) =
        let place : j ≡ count = last.0 ∙ before.each in
        let same : first ≡ old_first = same_Some first old_first (sym at_first ∙ (ap (slice_get noted) (sym place) ∙ before.others j old_first (omega (arith, place)) at_old)) in
        ap (slice_get (set noted count (first_with first cycle s))) place
        ∙ (set_here noted count (first_with first cycle s) (slice_get_within noted count first at_first)
        ∙ (ap (λ f. Some (first_with f cycle s)) same ∙ ap (λ (y : Shown). Some (first_with old_first cycle y)) last.1))

-- One place more has its number.
use Rattle.std.proofs.Common.{◌≡◌, ◌+◌, ◌<◌, ◌∙◌, ℕ, [], map, length, take, get_or, Some, refl, sym, ap, subst, arith, All}
use Rattle.std.proofs.lemmas.List.{take_more, take_all}
use Rattle.std.proofs.lemmas.List.Elements.{All-nil, All-push, All-weaker}
use Rattle.std.proofs.lemmas.Option.{slice_get_within, slice_get-get_or}
use Rattle.circuit_theory.proofs.Lists.{of_at}
use Rattle.cbf_unfold.proofs.unfold_places.Lists.{adds_none, adds_trans, adds_weaker, adds_length}
use Rattle.aig.proofs.Interned.{interned}
use Rattle.assume_queries.specs.assume_functions.assume_places.Gathered.{IsAmong, place_at}
use Rattle.assume_queries.proofs.assume_functions.assume_places.Gathering.{numbers_more}
use Rattle.assume_queries.proofs.assume_functions.assume_places.gathered.numbers_of.Goals as goal

pub loop-place-init : goal.loop-place-init
loop-place-init c =
    let none : c.new-own.result.items ≡ [] = c.new-own.ensures.items in
    record {
      places = ap (map (place_at c.args.found.now)) none;
      within = subst (All (λ n. n < length c.args.found.now)) (sym none) (All-nil (λ n. n < length c.args.found.now));
      adds = adds_none (IsAmong c.args.places.now) c.args.found.now c.args.found.now refl;
      few = omega arith;
    }

pub loop-place-preserved : goal.loop-place-preserved
loop-place-preserved c =
    let old = c.loop-place.found in
    let new = c.intern.new.self in
    let places = c.args.places.now in
    let i = c.loop-place.place-index in
    let place : ℕ = get_or places i 0 in
    let n = c.in_ok-number.number in
    let own = c.loop-place.own.items in
    let inside : i < length places = c.loop-place-test.true in
    let put = interned old new (place, 0) c.in_ok-number.ensures.known c.in_ok-number.ensures.added in
    let long = adds_length (λ (p : ℕ × ℕ). p ≡ (place, 0)) old new put.0 in
    record {
      places = numbers_more old new own c.push.new.self.items (take i places) (take (i + 1) places) n place put.0 c.loop-place.invariant.within c.loop-place.invariant.places c.in_ok-number.ensures.here c.in_ok-push.ensures.items (take_more places i 0 inside);
      within = subst (All (λ m. m < length new)) (sym c.in_ok-push.ensures.items)
          (All-push (λ m. m < length new) own n (All-weaker (λ m. m < length old) (λ m. m < length new) (λ m h. omega (arith, h, long)) own c.loop-place.invariant.within) (slice_get_within new n (place, 0) c.in_ok-number.ensures.here));
      adds = adds_trans (IsAmong places) c.args.found.now old new c.loop-place.invariant.adds
          (adds_weaker (λ (p : ℕ × ℕ). p ≡ (place, 0)) (IsAmong places) old new (λ p e. (ap (λ (q : ℕ × ℕ). q.1) e, of_at places i p.0 (slice_get-get_or places i 0 inside ∙ ap (λ (k : ℕ). Some k) (sym (ap (λ (q : ℕ × ℕ). q.0) e))))) put.0);
      few = omega (arith, c.loop-place.invariant.few, put.1);
    }

pub returns-clause-places : goal.returns-clause-places
returns-clause-places c =
    ap (map (place_at c.loop-place.found)) c.from_vec.ensures ∙ (c.loop-place.invariant.places ∙ take_all c.loop-place.place-index c.args.places.now c.loop-place-test.false)

pub returns-clause-within : goal.returns-clause-within
returns-clause-within c = subst (All (λ n. n < length c.loop-place.found)) (sym c.from_vec.ensures) c.loop-place.invariant.within

-- The differences that are found are those of every two runs over the stimulus.
use Rattle.std.proofs.Common.{◌≡◌, ◌≢◌, ◌↔◌, ℕ, ◌<◌, Bool, true, false, List, length, slice_get, Some, refl, sym, ◌∙◌, ap, subst, arith}
use Rattle.std.specs.Prelude.{◌&&◌}
use Rattle.std.proofs.lemmas.Option.{slice_get_within}
use Rattle.circuit_theory.specs.declared.Mode.{Mode}
use Rattle.circuit_theory.specs.Circuit.{Circuit}
use Rattle.circuit_theory.specs.Agree.{PairAt, IsSettled}
use Rattle.circuit_theory.specs.Replay.{Difference, AreDifferences}
use Rattle.flat_net.proofs.Nets.{some_at}
use Rattle.cycle_sim.specs.declared.pair_runs.shown.Shown.{Shown}
use Rattle.cycle_sim.specs.pair_runs.Listing.{differ, differences_from}
use Rattle.cycle_sim.proofs.pair_runs.Listed.{IsAmong, found_is, is_found, found_in_order}
use Rattle.job_circuit.proofs.replay.replay_header.Tests.{no_true_false, and_both, both_and}

-- two bits differ exactly where the test says so
differ_is : (l r : Bool) → differ l r ≡ true → l ≢ r
differ_is true true e q = no_true_false (sym e)
differ_is true false e q = no_true_false q
differ_is false true e q = no_true_false (sym q)
differ_is false false e q = no_true_false (sym e)

is_differ : (l r : Bool) → l ≢ r → differ l r ≡ true
is_differ true true n = absurd (n refl)
is_differ true false n = refl
is_differ false true n = refl
is_differ false false n = absurd (n refl)

-- the values and the marks of a pair in a cycle of two runs
pub record IsRight (mode : Mode) (a b : Circuit ℕ) (left right : ℕ → ℕ → Bool) (t : ℕ) (pair : PairAt ℕ ℕ) (s : Shown) : Type 0 where
  pub left_is : s.left ≡ left t pair.left
  pub right_is : s.right ≡ right t pair.right
  pub left_mark : (s.left_mark ≡ true) ↔ IsSettled mode a left t pair.left
  pub right_mark : (s.right_mark ≡ true) ↔ IsSettled mode b right t pair.right

pub record AreRight (mode : Mode) (a b : Circuit ℕ) (pairs : List (PairAt ℕ ℕ)) (left right : ℕ → ℕ → Bool) (t : ℕ) (shown : List Shown) : Type 0 where
  pub each : length shown ≡ length pairs
  pub right_is : (j : ℕ) (pair : PairAt ℕ ℕ) (s : Shown) → slice_get pairs j ≡ Some pair → slice_get shown j ≡ Some s → IsRight mode a b left right t pair s

module _ (mode : Mode) (a b : Circuit ℕ) (pairs : List (PairAt ℕ ℕ)) (n : ℕ) (left right : ℕ → ℕ → Bool) (cycles : List (List Shown)) (all : length cycles ≡ n)
    (are : (t : ℕ) (shown : List Shown) → slice_get cycles t ≡ Some shown → AreRight mode a b pairs left right t shown) where
  abbrev IsThere : Difference → Type 0
  IsThere d = (d.cycle < n) × ((p q : ℕ) × (slice_get pairs d.pair ≡ Some (record { left = p; right = q })) × IsSettled mode a left d.cycle p × IsSettled mode b right d.cycle q
      × (d.left ≡ left d.cycle p) × (d.right ≡ right d.cycle q) × (d.left ≢ d.right))

  there : (d : Difference) → IsAmong 0 cycles d → IsThere d
  there d among =
      let is = among.is in
      let shown = are among.back among.shown among.here in
      let e = shown.each in
      let pair = some_at pairs is.place (let w = slice_get_within among.shown is.place is.both is.here in omega (arith, w, e)) in
      let s = shown.right_is is.place pair.0 is.both pair.1 is.here in
      let differs = and_both (is.both.left_mark && is.both.right_mark) (differ is.both.left is.both.right) is.is.differs in
      let marks = and_both is.both.left_mark is.both.right_mark differs.0 in
      let cycle : among.back ≡ d.cycle = let c = is.is.cycle in omega (arith, c) in
      let place : is.place ≡ d.pair = let p = is.pair in omega (arith, p) in
      let values : d.left ≢ d.right = λ q. differ_is is.both.left is.both.right differs.1 (sym is.is.left ∙ (q ∙ is.is.right)) in (
        (let w = slice_get_within cycles among.back among.shown among.here in omega (arith, w, all, cycle)),
        (
          pair.0.left,
          pair.0.right,
          ap (slice_get pairs) (sym place) ∙ pair.1,
          subst (λ t. IsSettled mode a left t pair.0.left) cycle (s.left_mark.0 marks.0),
          subst (λ t. IsSettled mode b right t pair.0.right) cycle (s.right_mark.0 marks.1),
          is.is.left ∙ (s.left_is ∙ ap (λ t. left t pair.0.left) cycle),
          is.is.right ∙ (s.right_is ∙ ap (λ t. right t pair.0.right) cycle),
          values,
        ),
      )

  listed : (d : Difference) → IsThere d → IsAmong 0 cycles d
  listed d h =
      let place = h.1 in
      let pair : PairAt ℕ ℕ = record { left = place.0; right = place.1 } in
      let shown = some_at cycles d.cycle (let w = h.0 in omega (arith, w, all)) in
      let right_shown = are d.cycle shown.0 shown.1 in
      let e = right_shown.each in
      let s = some_at shown.0 d.pair (let w = slice_get_within pairs d.pair pair place.2 in omega (arith, w, e)) in
      let is = right_shown.right_is d.pair pair s.0 place.2 s.1 in
      record {
        back = d.cycle;
        shown = shown.0;
        here = shown.1;
        is = record {
          place = d.pair;
          both = s.0;
          here = s.1;
          pair = omega arith;
          is = record {
            cycle = omega arith;
            differs = both_and (s.0.left_mark && s.0.right_mark) (differ s.0.left s.0.right) (both_and s.0.left_mark s.0.right_mark (is.left_mark.1 place.3) (is.right_mark.1 place.4))
                (is_differ s.0.left s.0.right (λ q. place.7 (place.5 ∙ (sym is.left_is ∙ (q ∙ (is.right_is ∙ sym place.6))))));
            left = place.5 ∙ sym is.left_is;
            right = place.6 ∙ sym is.right_is;
          };
        };
      }

  pub are_differences : AreDifferences mode a b pairs n left right (differences_from 0 cycles)
  are_differences = record {
    in_order = found_in_order 0 cycles;
    exactly = λ d. (λ h. there d (found_is 0 cycles d h), λ h. is_found 0 cycles d (listed d h));
  }

-- A cycle that is told is one.
use Rattle.std.proofs.Common.{◌≡◌, ℕ, zero, suc, ◌+◌, ◌-◌, ◌<◌, List, length, sym, ◌∙◌, ap, subst, refl, arith, add-one, Some, slice_get}
use Rattle.std.proofs.lemmas.Bool.Decides.{nat_tests}
use Rattle.std.proofs.lemmas.Option.{slice_get_within}
use Rattle.circuit_theory.specs.declared.Mode.TheVariants.{Plain}
use Rattle.circuit_theory.specs.Circuit.{Circuit}
use Rattle.circuit_theory.specs.Depth.{LatchReads, LatchPath, IsCycle, HasCycle, after_in_round}
use Rattle.circuit_theory.specs.Run.{NoneEnabled}
use Rattle.flat_net.specs.View.{NetView, circuit_of}
use Rattle.flat_net.proofs.Nets.{some_at}
use Rattle.sec_setup.specs.cut_points.Exposed.{IsFreeWithout, IsToldCycle}

some_is : {X : Type 0} {x y : X} → Some x ≡ Some y → x ≡ y
some_is q = cc

-- a cycle as a list is a way from a latch back to itself
module _ {P : Type 0} (c : Circuit P) (enabled : P → Type 0) (removed : List (List ℕ)) (latches : List P) (cycle : IsCycle c enabled removed latches) (first : P) (here : slice_get latches 0 ≡ Some first) where
  next_place : (n i : ℕ) → i + 1 < n → after_in_round n i ≡ i + 1
  next_place n i h = grind (arith, nat_tests)

  last_place : (n i : ℕ) → i + 1 ≡ n → after_in_round n i ≡ 0
  last_place n i h = grind (arith, nat_tests)

  -- from a later latch back to the first
  back : (i : ℕ) (u : P) → slice_get latches (suc i) ≡ Some u → LatchPath c enabled removed u first
  back i u at = go i (slice_get_within latches (suc i) u at) u at
    where
      reads : (i : ℕ) (u v : P) → i + 1 < length latches → slice_get latches i ≡ Some u → slice_get latches (suc i) ≡ Some v → LatchReads c enabled removed v u
      reads i u v within hu hv =
          cycle.edges i u v hu (ap (slice_get latches) (next_place (length latches) i within ∙ add-one i) ∙ hv)

      go : (i : ℕ) → suc i < length latches → (u : P) → slice_get latches (suc i) ≡ Some u → LatchPath c enabled removed u first
      go zero within u at = LatchPath.edge (reads 0 first u (omega arith) here at)
      go (suc i) within u at =
          let before = some_at latches (suc i) (omega arith) in
          LatchPath.step (reads (suc i) before.0 u (omega arith) before.1 at) (go i (omega arith) before.0 before.1)

  round : HasCycle c enabled removed
  round =
      let last = some_at latches (length latches - 1) (omega (arith, cycle.some)) in
      let closes : LatchReads c enabled removed first last.0 =
      cycle.edges (length latches - 1) last.0 first last.1 (ap (slice_get latches) (last_place (length latches) (length latches - 1) (omega (arith, cycle.some))) ∙ here) in
      (first, go (length latches - 1) refl last.0 last.1 closes)
    where
      go : (i : ℕ) → length latches - 1 ≡ i → (last : P) → slice_get latches (length latches - 1) ≡ Some last → LatchReads c enabled removed first last → LatchPath c enabled removed first first
      go zero e last at closes = LatchPath.edge (subst (λ (u : P). LatchReads c enabled removed first u) (one last (ap (slice_get latches) (sym e) ∙ at)) closes)
        where
          one : (last : P) → slice_get latches 0 ≡ Some last → last ≡ first
          one last at = some_is (sym at ∙ here)
      go (suc i) e last at closes = LatchPath.step closes (back i last (ap (slice_get latches) (sym e) ∙ at))

-- the latch graph isn't free of cycles without the latches of these names
pub is_not_free : (n : NetView) (without names : List (List ℕ)) → IsToldCycle Plain n without names → IsFreeWithout Plain n without → ⊥
is_not_free n without names told free =
    let first = some_at told.latches 0 told.cycle.some in
    free (round (circuit_of n) NoneEnabled without told.latches told.cycle first.0 first.1)

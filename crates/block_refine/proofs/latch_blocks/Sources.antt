-- The variables of inputs and latches are there, and small.
use Rattle.std.proofs.Common.{◌≡◌, ◌+◌, ◌<◌, ◌^◌, ℕ, length, slice_get, Option, Some, ap, arith}
use Rattle.std.specs.Prelude.{option_and_then}
use Rattle.std.proofs.lemmas.Option.{slice_get_within}
use Rattle.flat_net.specs.declared.parts.Driver.{Driver}
use Rattle.flat_net.specs.declared.parts.Driver.TheVariants as driver
use Rattle.flat_net.specs.View.{NetView}
use Rattle.flat_net.specs.Sound.{IsSound}
use Rattle.flat_net.proofs.Places.{All-at}
use Rattle.block_refine.specs.declared.latch_blocks.variables.Variables.{Variables}
use Rattle.block_refine.specs.latch_blocks.Signals.{AreVariables, variable_of, variable_at}

module _ (n : NetView) (sound : IsSound n) (w : Variables) (are : AreVariables n w) (s : ℕ) where
  pub input_inside : (i : ℕ) → slice_get n.drivers s ≡ Some (driver.Input i) → i < length w.inputs
  input_inside i drives =
      let p = sound.drivers s (driver.Input i) drives in
      let inside = slice_get_within n.inputs i p.0 p.1 in
      omega (arith, inside, are.inputs)

  pub latch_inside : (j : ℕ) → slice_get n.drivers s ≡ Some (driver.Latch j) → j < length w.latches
  latch_inside j drives =
      let p = sound.drivers s (driver.Latch j) drives in
      let inside = slice_get_within n.latches j p.0 p.1 in
      omega (arith, inside, are.latches)

  pub input_small : (i k : ℕ) → slice_get w.inputs i ≡ Some k → k + 1 < 2 ^ 32
  input_small i k at = All-at (λ m. m + 1 < 2 ^ 32) w.inputs i k at are.small_inputs

pub driven_at : (n : NetView) (w : Variables) (s : ℕ) (d : Driver) → slice_get n.drivers s ≡ Some d → variable_at n w s ≡ variable_of w d
driven_at n w s d drives = ap (λ (o : Option Driver). option_and_then (variable_of w) o) drives

-- What refuses a comparison under an assumption.
use Rattle.std.proofs.Common.{◌≡◌, ℕ, refl, map, Err}
use Rattle.circuit_theory.specs.declared.Side.TheVariants.{A, B}
use Rattle.sec_setup.specs.declared.setup.Setup.{Setup}
use Rattle.sec_setup.specs.ports.Pairs.{places_of}
use Rattle.assume_queries.specs.declared.assume_sequences.premise.Premise.{Premise}
use Rattle.assume_queries.specs.declared.map.UnderError.{UnderError}
use Rattle.assume_queries.specs.declared.map.UnderError.TheVariants as under
use Rattle.reset_form.specs.declared.reset_functions.bases.Bases.{Bases}
use Rattle.reset_form.specs.declared.reset_functions.error.ResetError.{ResetError}
use Rattle.reset_form.specs.declared.reset_functions.error.ResetError.TheVariants as reset
use Rattle.reset_form.specs.reset_functions.Bases.{AreBases}
use Rattle.reset_form.specs.reset_functions.Pairs.{IsLeftSide, IsRightSide, IsLight, Unfolds}
use Rattle.reset_form.specs.reset_asked.Numbers.{numbered}
use Rattle.plain_check.specs.asked_under.reset_asked_under.Formed.{FormedUnder}
use Rattle.plain_check.specs.under_base.under_fits.ResetPlaces.{IsOverInCycles}
use Rattle.plain_check.specs.asked_under.Refusals.{refusal_under}
use Rattle.plain_check.specs.asked_under.reset_asked_under.Refusals.{refusal_of}

module _ (s : Setup) (p : Premise) (conflicts : ℕ) (b : Bases) where
  -- a circuit is too large
  pub unfolded : (e : ResetError) → Unfolds s b (Err e) → FormedUnder s p conflicts (Err (refusal_of e))
  unfolded (reset.TooLarge A) h = h
  unfolded (reset.TooLarge B) h = h
  unfolded reset.NoMemory h = tt

  -- or the assumption is
  pub assumed : AreBases s b → IsLight s.left.now (IsLeftSide s) → IsLight s.right.now (IsRightSide s) → (e : UnderError) → (e ≡ under.TooLarge → IsOverInCycles p.weight (numbered s b) (map places_of s.pairs)) → FormedUnder s p conflicts (Err (refusal_under e))
  assumed are left right under.TooLarge over = record { left_light = left; right_light = right; bases = b; are_bases = are; over = over refl }
  assumed are left right under.NoMemory over = tt

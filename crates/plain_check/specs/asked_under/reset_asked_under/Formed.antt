-- What a comparison from the initial values gives under an assumption.
use Rattle.std.specs.Prelude.{ℕ, List, length, map, Result, Ok, Err}
use Rattle.circuit_theory.specs.declared.Side.TheVariants.{A, B}
use Rattle.flat_net.specs.View.{NetView}
use Rattle.sec_setup.specs.declared.setup.Setup.{Setup}
use Rattle.sec_setup.specs.ports.Pairs.{places_of}
use Rattle.assume_laws.specs.assume_shape.Shape.{assumption_of}
use Rattle.assume_queries.specs.declared.assume_sequences.premise.Premise.{Premise}
use Rattle.assume_queries.specs.assume_sequences.Assumed.{IsAssumedBy}
use Rattle.assume_queries.specs.assume_sequences.Filled.{bit_of}
use Rattle.reset_form.specs.declared.reset_functions.bases.Bases.{Bases}
use Rattle.reset_form.specs.reset_functions.Bases.{AreBases}
use Rattle.reset_form.specs.reset_functions.Pairs.{IsLeftSide, IsRightSide, IsLight, IsTooLarge}
use Rattle.reset_form.specs.declared.reset_asked.findings.ResetFindings.{ResetFindings}
use Rattle.reset_form.specs.reset_asked.Numbers.{numbered}
use Rattle.plain_check.specs.declared.asked_under.error.CompareUnderError.{CompareUnderError}
use Rattle.plain_check.specs.declared.asked_under.error.CompareUnderError.TheVariants as refused
use Rattle.plain_check.specs.under_base.under_fits.ResetPlaces.{IsOverInCycles, IsLightInCycles}
use Rattle.plain_check.specs.asked_under.reset_asked_under.Verdict.{FindingsFitUnder}

-- both unfoldings and the assumption are light, and what is found fits the circuits that are compared under each assumption of the premise
pub record AreFoundUnder (s : Setup) (p : Premise) (conflicts : ℕ) (f : ResetFindings) : Type 0 where
  pub left_light : IsLight s.left.now (IsLeftSide s)
  pub right_light : IsLight s.right.now (IsRightSide s)
  pub bases : Bases
  pub are_bases : AreBases s bases
  pub light : IsLightInCycles p.weight (numbered s bases) (map places_of s.pairs)
  pub fits : (n : NetView) (inputs : List ℕ) (output size : ℕ) → IsAssumedBy p (length s.columns) n inputs output size →
      FindingsFitUnder (assumption_of n inputs output) (numbered s bases) (bit_of p.meeting) conflicts (map places_of s.pairs) f

-- both unfoldings are light, and the assumption isn't
pub record IsAssumptionTooLarge (s : Setup) (p : Premise) : Type 0 where
  pub left_light : IsLight s.left.now (IsLeftSide s)
  pub right_light : IsLight s.right.now (IsRightSide s)
  pub bases : Bases
  pub are_bases : AreBases s bases
  pub over : IsOverInCycles p.weight (numbered s bases) (map places_of s.pairs)

-- what is found, or the first that is too large: A, B, or else the assumption
abbrev pub FormedUnder : Setup → Premise → ℕ → Result ResetFindings CompareUnderError → Type 0
FormedUnder s p conflicts (Ok f) = AreFoundUnder s p conflicts f
FormedUnder s p conflicts (Err (refused.TooLarge A)) = IsTooLarge s.left.now (IsLeftSide s)
FormedUnder s p conflicts (Err (refused.TooLarge B)) = IsLight s.left.now (IsLeftSide s) × IsTooLarge s.right.now (IsRightSide s)
FormedUnder s p conflicts (Err refused.AssumptionTooLarge) = IsAssumptionTooLarge s p
FormedUnder s p conflicts (Err refused.NoMemory) = Unit {0}

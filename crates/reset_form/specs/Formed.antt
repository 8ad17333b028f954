-- What a comparison in the reset form gives.
use Rattle.std.specs.Prelude.{ℕ, map, Result, Ok, Err}
use Rattle.circuit_theory.specs.declared.Side.TheVariants.{A, B}
use Rattle.sec_setup.specs.declared.setup.Setup.{Setup}
use Rattle.sec_setup.specs.ports.Pairs.{places_of}
use Rattle.reset_form.specs.declared.reset_functions.bases.Bases.{Bases}
use Rattle.reset_form.specs.declared.reset_asked.findings.ResetFindings.{ResetFindings}
use Rattle.reset_form.specs.declared.reset_functions.error.ResetError.{ResetError}
use Rattle.reset_form.specs.declared.reset_functions.error.ResetError.TheVariants as refused
use Rattle.reset_form.specs.reset_functions.Bases.{AreBases}
use Rattle.reset_form.specs.reset_asked.Numbers.{numbered}
use Rattle.reset_form.specs.Findings.{FindingsFit}
use Rattle.reset_form.specs.reset_functions.Pairs.{IsLeftSide, IsRightSide, IsLight, IsTooLarge}

-- both unfoldings are light, and what is found fits the circuits that are compared
pub record AreFound (s : Setup) (conflicts : ℕ) (f : ResetFindings) : Type 0 where
  pub left_light : IsLight s.left.now (IsLeftSide s)
  pub right_light : IsLight s.right.now (IsRightSide s)
  pub bases : Bases
  pub are_bases : AreBases s bases
  pub fits : FindingsFit (numbered s bases) conflicts (map places_of s.pairs) f

-- what is found, or the first circuit that is too large
abbrev pub Formed : Setup → ℕ → Result ResetFindings ResetError → Type 0
Formed s conflicts (Ok f) = AreFound s conflicts f
Formed s conflicts (Err (refused.TooLarge A)) = IsTooLarge s.left.now (IsLeftSide s)
Formed s conflicts (Err (refused.TooLarge B)) = IsLight s.left.now (IsLeftSide s) × IsTooLarge s.right.now (IsRightSide s)
Formed s conflicts (Err refused.NoMemory) = Unit {0}

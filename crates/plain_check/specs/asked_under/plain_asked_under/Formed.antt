-- What a comparison in the plain form gives under an assumption.
use Rattle.std.specs.Prelude.{ℕ, List, length, map, Result, Ok, Err}
use Rattle.circuit_theory.specs.declared.Side.TheVariants.{A, B}
use Rattle.flat_net.specs.View.{NetView, circuit_of}
use Rattle.sec_setup.specs.declared.setup.Setup.{Setup}
use Rattle.sec_setup.specs.Cuts.{is_cut}
use Rattle.sec_setup.specs.ports.Pairs.{places_of}
use Rattle.outcome_fits.specs.Fitting.{IsLight, IsTooLarge}
use Rattle.assume_laws.specs.assume_shape.Shape.{assumption_of}
use Rattle.assume_queries.specs.declared.assume_sequences.premise.Premise.{Premise}
use Rattle.assume_queries.specs.assume_sequences.Assumed.{IsAssumedBy}
use Rattle.assume_queries.specs.assume_sequences.Filled.{bit_of}
use Rattle.plain_asked.specs.declared.findings.Findings.{Findings}
use Rattle.plain_check.specs.declared.asked_under.error.CompareUnderError.{CompareUnderError}
use Rattle.plain_check.specs.declared.asked_under.error.CompareUnderError.TheVariants as refused
use Rattle.plain_check.specs.under_base.under_fits.Places.{IsOverAtPairs, IsLightAtPairs}
use Rattle.plain_check.specs.asked_under.plain_asked_under.Verdict.{FindingsFitUnder}

-- the assumption of this weight weighs no more than 2,000,000 at the places of the setup's pairs, with one more for each of each pair
abbrev pub IsAssumptionLight : Setup → ℕ → Type 0
IsAssumptionLight s weight = IsLightAtPairs weight (circuit_of s.left.now) (circuit_of s.right.now) s.orders.left s.orders.right (map places_of s.pairs)

-- or more
abbrev pub IsAssumptionTooLarge : Setup → ℕ → Type 0
IsAssumptionTooLarge s weight = IsOverAtPairs weight (circuit_of s.left.now) (circuit_of s.right.now) s.orders.left s.orders.right (map places_of s.pairs)

-- both unfoldings and the assumption are light, and what is found fits the circuits that are compared under each assumption of the premise
pub record AreFoundUnder (s : Setup) (p : Premise) (conflicts : ℕ) (f : Findings) : Type 0 where
  pub left_light : IsLight s.left.now
  pub right_light : IsLight s.right.now
  pub light : IsAssumptionLight s p.weight
  pub fits : (n : NetView) (inputs : List ℕ) (output size : ℕ) → IsAssumedBy p (length s.columns) n inputs output size →
      FindingsFitUnder (assumption_of n inputs output) (circuit_of s.left.now) (circuit_of s.right.now) s.orders.left s.orders.right s.columns (bit_of p.meeting) (is_cut s.exposed) conflicts (map places_of s.pairs) f

-- what is found, or the first that is too large: A, B, or else the assumption
abbrev pub FormedUnder : Setup → Premise → ℕ → Result Findings CompareUnderError → Type 0
FormedUnder s p conflicts (Ok f) = AreFoundUnder s p conflicts f
FormedUnder s p conflicts (Err (refused.TooLarge A)) = IsTooLarge s.left.now
FormedUnder s p conflicts (Err (refused.TooLarge B)) = IsLight s.left.now × IsTooLarge s.right.now
FormedUnder s p conflicts (Err refused.AssumptionTooLarge) = IsLight s.left.now × IsLight s.right.now × IsAssumptionTooLarge s p.weight
FormedUnder s p conflicts (Err refused.NoMemory) = Unit {0}

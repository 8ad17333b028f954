-- What a comparison in the plain form gives.
use Rattle.std.specs.Prelude.{ℕ, map, Result, Ok, Err}
use Rattle.circuit_theory.specs.declared.Side.TheVariants.{A, B}
use Rattle.flat_net.specs.View.{circuit_of}
use Rattle.sec_setup.specs.declared.setup.Setup.{Setup}
use Rattle.sec_setup.specs.Cuts.{is_cut}
use Rattle.sec_setup.specs.ports.Pairs.{places_of}
use Rattle.outcome_fits.specs.Fitting.{IsLight, IsTooLarge}
use Rattle.plain_asked.specs.declared.findings.Findings.{Findings}
use Rattle.plain_asked.specs.declared.error.PlainError.{PlainError}
use Rattle.plain_asked.specs.declared.error.PlainError.TheVariants as refused
use Rattle.plain_asked.specs.Findings.{FindingsFit}

-- both unfoldings are light, and what is found fits the circuits that are compared
pub record AreFound (s : Setup) (conflicts : ℕ) (f : Findings) : Type 0 where
  pub left_light : IsLight s.left.now
  pub right_light : IsLight s.right.now
  pub fits : FindingsFit (circuit_of s.left.now) (circuit_of s.right.now) s.orders.left s.orders.right s.columns (is_cut s.exposed) conflicts (map places_of s.pairs) f

-- what is found, or the first circuit that is too large
abbrev pub Formed : Setup → ℕ → Result Findings PlainError → Type 0
Formed s conflicts (Ok f) = AreFound s conflicts f
Formed s conflicts (Err (refused.TooLarge A)) = IsTooLarge s.left.now
Formed s conflicts (Err (refused.TooLarge B)) = IsLight s.left.now × IsTooLarge s.right.now
Formed s conflicts (Err refused.NoMemory) = Unit {0}

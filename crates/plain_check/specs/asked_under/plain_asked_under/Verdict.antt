-- What it means that what is found of some pairs fits two circuits, in the plain form under an assumption.
use Rattle.std.specs.Prelude.{ℕ, Bool, List}
use Rattle.circuit_theory.specs.Circuit.{Circuit}
use Rattle.sec_setup.specs.ports.Pairs.{NamedPair}
use Rattle.assume_laws.specs.Assume.{Assumption}
use Rattle.plain_asked.specs.declared.findings.Findings.{Findings}
use Rattle.plain_asked.specs.Findings.{AreFound}
use Rattle.plain_check.specs.under_base.under_fits.Pairs.{PairFitsUnder}
use Rattle.plain_check.specs.under_base.under_fits.Verdict.{IsFirstOfAnswerUnder}

-- what is found of the pairs fits the circuits under the assumption
abbrev pub FindingsFitUnder : {P Q : Type 0} → Assumption → Circuit P → Circuit Q → List ℕ → List ℕ → List (List ℕ) → (ℕ → Bool) → Bool → ℕ → List (NamedPair P Q) → Findings → Type 0
FindingsFitUnder c a b left right columns meeting cut conflicts pairs f =
    AreFound (PairFitsUnder c a b left right cut conflicts) (λ results wanted w. IsFirstOfAnswerUnder c a b left right columns meeting wanted pairs results w) pairs f

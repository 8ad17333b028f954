-- What it means that what is found of some pairs fits two circuits whose runs begin with the latches' initial values, under an assumption.
use Rattle.std.specs.Prelude.{ℕ, Bool, List}
use Rattle.obligations.specs.declared.outcome.verdict.PairResult.{PairResult}
use Rattle.sec_setup.specs.ports.Pairs.{NamedPair}
use Rattle.assume_laws.specs.Assume.{Assumption}
use Rattle.reset_form.specs.outcome_fits.ResetOutcome.{Numbered}
use Rattle.reset_form.specs.declared.reset_asked.findings.ResetFindings.{ResetFindings}
use Rattle.reset_form.specs.declared.reset_asked.findings.ResetVerdict.{ResetVerdict}
use Rattle.reset_form.specs.Findings.{VerdictOf, AreFound}
use Rattle.plain_check.specs.under_base.under_fits.ResetVerdict.{PairFitsUnder, IsFirstDifferenceUnder}

-- the verdict of pairs as they are asked under the assumption
abbrev pub VerdictFitsUnder : Assumption → Numbered → (ℕ → Bool) → List (NamedPair ℕ ℕ) → List PairResult → ResetVerdict → Type 0
VerdictFitsUnder c n meeting pairs results v = VerdictOf (IsFirstDifferenceUnder c n meeting pairs results) results v

-- what is found of the pairs fits the circuits under the assumption
abbrev pub FindingsFitUnder : Assumption → Numbered → (ℕ → Bool) → ℕ → List (NamedPair ℕ ℕ) → ResetFindings → Type 0
FindingsFitUnder c n meeting conflicts pairs f = AreFound (PairFitsUnder c n conflicts) (IsFirstDifferenceUnder c n meeting pairs) pairs f

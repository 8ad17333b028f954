-- What it means that what is found of some pairs fits two circuits, in the plain form under an assumption.
use Rattle.std.specs.Prelude.{◌≡◌, ℕ, Bool, List, length}
use Rattle.std.specs.List.{AllZip}
use Rattle.circuit_theory.specs.Circuit.{Circuit}
use Rattle.sec_base.specs.declared.basics.PairAnswer.{PairAnswer}
use Rattle.witness_report.specs.declared.witness.Witness.{Witness}
use Rattle.obligations.specs.declared.outcome.verdict.PairResult.{PairResult}
use Rattle.obligations.specs.declared.outcome.verdict.Verdict.{Verdict}
use Rattle.sec_setup.specs.ports.Pairs.{NamedPair}
use Rattle.outcome_fits.specs.Outcome.{VerdictOf}
use Rattle.outcome_fits.specs.Results.{IsFirst, IsSequenceOf}
use Rattle.assume_laws.specs.Assume.{Assumption}
use Rattle.assume_laws.specs.Sequences.{IsWitnessUnder}
use Rattle.plain_check.specs.under_base.under_fits.Pairs.{PairFitsUnder}

-- one result for each of these pairs, in order
abbrev pub EachFitsUnder : {P Q : Type 0} → Assumption → Circuit P → Circuit Q → List ℕ → List ℕ → Bool → ℕ → List (NamedPair P Q) → List PairResult → Type 0
EachFitsUnder c a b left right cut conflicts pairs results = AllZip (PairFitsUnder c a b left right cut conflicts) pairs results

-- The first pair with this answer, and a sequence of it over the inputs of these names: by an assignment of the variables of its query that
-- meets the assumption at each place that has a variable of both functions and makes these differ, up to 16 variables the least one. Each
-- cycle at whose place no such variable is holds the meeting row.
abbrev pub IsFirstOfAnswerUnder : {P Q : Type 0} → Assumption → Circuit P → Circuit Q → List ℕ → List ℕ → List (List ℕ) → (ℕ → Bool) → PairAnswer → List (NamedPair P Q) → List PairResult → Witness → Type 0
IsFirstOfAnswerUnder c a b left right columns meeting wanted pairs results w =
    IsFirst wanted (λ x r. IsSequenceOf x.name columns (λ t. t ≡ r.size) (IsWitnessUnder c a b left right x.left x.right (length columns) meeting) w) pairs results

-- the verdict of pairs as they are asked under the assumption
abbrev pub VerdictFitsUnder : {P Q : Type 0} → Assumption → Circuit P → Circuit Q → List ℕ → List ℕ → List (List ℕ) → (ℕ → Bool) → List (NamedPair P Q) → List PairResult → Verdict → Type 0
VerdictFitsUnder c a b left right columns meeting pairs results v = VerdictOf (λ wanted w. IsFirstOfAnswerUnder c a b left right columns meeting wanted pairs results w) results v

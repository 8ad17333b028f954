-- What shows the verdict at an obligation under an assumption.
use Rattle.std.specs.Prelude.{◌≡◌, ℕ, ◌*◌, ◌<◌, Bool, List, length, slice_get, Some}
use Rattle.std.specs.List.{All}
use Rattle.circuit_theory.specs.Query.{same_shift}
use Rattle.circuit_theory.specs.Sequence.{sequence_rows}
use Rattle.pair_decide.specs.declared.query.Query.{Query}
use Rattle.witness_report.specs.declared.witness.Witness.{Witness}
use Rattle.obligations.specs.declared.outcome.verdict.PairResult.{PairResult}
use Rattle.obligations.specs.declared.outcome.verdict.Verdict.{Verdict}
use Rattle.obligations.specs.declared.outcome.verdict.Verdict.TheVariants as verdict
use Rattle.obligations.specs.declared.outcome.verdict.Why.TheVariants as why
use Rattle.obligations.specs.declared.outcome.verdict.LimitAt.TheVariants as limit_at
use Rattle.obligations.specs.declared.obligation.Obligation.{Obligation}
use Rattle.obligations.specs.declared.obligation.Difference.{Difference}
use Rattle.obligations.specs.declared.verdict.VerdictAt.{VerdictAt}
use Rattle.obligations.specs.declared.verdict.VerdictAt.TheVariants as at
use Rattle.cbf_unfold.specs.shift_variables.Variables.{variables_of}
use Rattle.cbf_unfold.specs.shift_variables.Sequences.{bits_at, IsSequence}
use Rattle.assume_laws.specs.Sequences.{filled}
use Rattle.assume_queries.specs.assume_sequences.Filled.{bit_of}
use Rattle.plain_asked.specs.declared.functions.Functions.{Functions}
use Rattle.plain_check.specs.asked_under.Differences.{HoldsAt, IsSequenceOfRows}

-- the bits of a difference give its query's variables a sequence over the inputs of these names, and those of both sides are in the table
pub record CanBeFilled (f : Functions) (columns : List (List ℕ)) (d : Difference) (o : Obligation) (sides query : Query) : Type 0 where
  pub within : All (λ v. v < length f.places) sides.vars
  pub left : query.left.0 < 2 * length f.aig
  pub right : query.right.0 < 2 * length f.aig
  pub sequence : IsSequence f.places query.vars d.bits o.size (length columns)

abbrev pub IsShowableUnder : Functions → List (List ℕ) → List Obligation → List Obligation → Difference → Type 0
IsShowableUnder f columns asked under d = HoldsAt (CanBeFilled f columns d) asked under d

abbrev pub CanBeShownUnder : Functions → List (List ℕ) → List Obligation → List Obligation → List PairResult → VerdictAt → Type 0
CanBeShownUnder f columns asked under results at.Equal = Unit {0}
CanBeShownUnder f columns asked under results (at.Different d) = IsShowableUnder f columns asked under d
CanBeShownUnder f columns asked under results (at.Limit place) = place < length results
CanBeShownUnder f columns asked under results (at.NotShown d) = IsShowableUnder f columns asked under d

-- the sequence of these bits, with the meeting row where no variable of both sides stands, and with the values of the sides
abbrev pub IsFilledSequence : Functions → List (List ℕ) → List Bool → Obligation → Query → Query → List Bool → Witness → Type 0
IsFilledSequence f columns meeting o sides query bits w =
    IsSequenceOfRows f.aig columns o.name query bits o.size (sequence_rows o.size (filled same_shift (variables_of f.places sides.vars) (bit_of meeting) (bits_at f.places query.vars bits)) (length columns)) w

-- that of a difference
abbrev pub IsWitnessAtUnder : Functions → List (List ℕ) → List Obligation → List Obligation → List Bool → Difference → Witness → Type 0
IsWitnessAtUnder f columns asked under meeting d w = HoldsAt (λ o sides query. IsFilledSequence f columns meeting o sides query d.bits w) asked under d

abbrev pub IsShownUnder : Functions → List (List ℕ) → List Obligation → List Obligation → List Bool → List PairResult → VerdictAt → Verdict → Type 0
IsShownUnder f columns asked under meeting results at.Equal v = v ≡ verdict.Equal
IsShownUnder f columns asked under meeting results (at.Different d) v = (w : Witness) × (v ≡ verdict.Different w) × IsWitnessAtUnder f columns asked under meeting d w
IsShownUnder f columns asked under meeting results (at.Limit place) v = (r : PairResult) × (slice_get results place ≡ Some r) × (v ≡ verdict.Limit (limit_at.Pair r.name))
IsShownUnder f columns asked under meeting results (at.NotShown d) v = (w : Witness) × (v ≡ verdict.NotShown (why.Cut w)) × IsWitnessAtUnder f columns asked under meeting d w

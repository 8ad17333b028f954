-- What shows the verdict at an obligation under an assumption.
use Rattle.std.specs.Prelude.{◌≡◌, ℕ, ◌*◌, ◌<◌, ◌≤◌, Bool, List, length, slice_get, Some}
use Rattle.std.specs.List.{All}
use Rattle.circuit_theory.specs.Query.{same_shift}
use Rattle.flat_net.specs.View.{circuit_of}
use Rattle.pair_decide.specs.declared.query.Query.{Query}
use Rattle.witness_report.specs.declared.witness.Witness.{Witness}
use Rattle.obligations.specs.declared.outcome.verdict.PairResult.{PairResult}
use Rattle.obligations.specs.declared.outcome.verdict.ResetWitness.{ResetWitness}
use Rattle.obligations.specs.declared.obligation.Obligation.{Obligation}
use Rattle.obligations.specs.declared.obligation.Difference.{Difference}
use Rattle.obligations.specs.declared.verdict.VerdictAt.{VerdictAt}
use Rattle.obligations.specs.declared.verdict.VerdictAt.TheVariants as at
use Rattle.sec_setup.specs.declared.setup.Setup.{Setup}
use Rattle.circuit_laws.specs.reset_laws.Reset.{reset_rows, powers}
use Rattle.cbf_unfold.specs.shift_variables.Variables.{variables_of}
use Rattle.cbf_unfold.specs.shift_variables.Sequences.{bits_at}
use Rattle.cbf_unfold.specs.shift_variables.cycle_variables.Cycles.{AreInCycles}
use Rattle.assume_laws.specs.Sequences.{filled}
use Rattle.assume_queries.specs.assume_sequences.Filled.{bit_of}
use Rattle.reset_form.specs.declared.reset_functions.bases.Bases.{Bases}
use Rattle.reset_form.specs.declared.reset_functions.functions.Functions.{Functions}
use Rattle.reset_form.specs.declared.reset_asked.findings.ResetVerdict.{ResetVerdict}
use Rattle.reset_form.specs.declared.reset_asked.findings.ResetVerdict.TheVariants as verdict
use Rattle.plain_check.specs.asked_under.Differences.{HoldsAt, IsSequenceOfRows}

-- the bits of a difference give its query's variables a sequence and power-ups, and those of both sides are in the table
pub record CanBeFilled (f : Functions) (d : Difference) (o : Obligation) (sides query : Query) : Type 0 where
  pub within : All (λ v. v < length f.places) sides.vars
  pub left : query.left.0 < 2 * length f.aig
  pub right : query.right.0 < 2 * length f.aig
  pub each : length d.bits ≡ length query.vars
  pub in_order : AreInCycles f.places query.vars
  pub cycle : d.query ≤ o.size

abbrev pub IsShowableUnder : Functions → List Obligation → List Obligation → Difference → Type 0
IsShowableUnder f asked under d = HoldsAt (CanBeFilled f d) asked under d

abbrev pub CanBeShownUnder : Functions → List Obligation → List Obligation → List PairResult → VerdictAt → Type 0
CanBeShownUnder f asked under results at.Equal = Unit {0}
CanBeShownUnder f asked under results (at.Different d) = IsShowableUnder f asked under d
CanBeShownUnder f asked under results (at.Limit place) = place < length results
CanBeShownUnder f asked under results (at.NotShown d) = ⊥

-- The sequence of a difference, which ends in the cycle of its query, with the meeting row where no variable of both sides stands, and with
-- the values of the sides.
abbrev pub IsFilledSequence : Functions → List (List ℕ) → List Bool → Obligation → Query → Query → Difference → Witness → Type 0
IsFilledSequence f columns meeting o sides query d w =
    IsSequenceOfRows f.aig columns o.name query d.bits d.query (reset_rows d.query (filled same_shift (variables_of f.places sides.vars) (bit_of meeting) (bits_at f.places query.vars d.bits)) (length columns)) w

-- the witness with the power-ups of both circuits by the bits of a query's variables
pub record HasPowers (s : Setup) (b : Bases) (f : Functions) (query : Query) (bits : List Bool) (old : Witness) (w : ResetWitness) : Type 0 where
  pub witness_is : w.witness ≡ old
  pub left_power_is : w.left_power ≡ powers (circuit_of s.left.now) b.left (bits_at f.places query.vars bits)
  pub right_power_is : w.right_power ≡ powers (circuit_of s.right.now) b.right (bits_at f.places query.vars bits)

-- the sequence and the power-ups of a query of a difference
pub record IsFilledWitness (s : Setup) (b : Bases) (f : Functions) (meeting : List Bool) (o : Obligation) (sides query : Query) (d : Difference) (w : ResetWitness) : Type 0 where
  pub sequence : IsFilledSequence f s.columns meeting o sides query d w.witness
  pub left_power_is : w.left_power ≡ powers (circuit_of s.left.now) b.left (bits_at f.places query.vars d.bits)
  pub right_power_is : w.right_power ≡ powers (circuit_of s.right.now) b.right (bits_at f.places query.vars d.bits)

-- those of a difference
abbrev pub IsWitnessAtUnder : Setup → Bases → Functions → List Obligation → List Obligation → List Bool → Difference → ResetWitness → Type 0
IsWitnessAtUnder s b f asked under meeting d w = HoldsAt (λ o sides query. IsFilledWitness s b f meeting o sides query d w) asked under d

abbrev pub IsShownUnder : Setup → Bases → Functions → List Obligation → List Obligation → List Bool → List PairResult → VerdictAt → ResetVerdict → Type 0
IsShownUnder s b f asked under meeting results at.Equal v = v ≡ verdict.Equal
IsShownUnder s b f asked under meeting results (at.Different d) v = (w : ResetWitness) × (v ≡ verdict.Different w) × IsWitnessAtUnder s b f asked under meeting d w
IsShownUnder s b f asked under meeting results (at.Limit place) v = (r : PairResult) × (slice_get results place ≡ Some r) × (v ≡ verdict.Limit r.name)
IsShownUnder s b f asked under meeting results (at.NotShown d) v = ⊥

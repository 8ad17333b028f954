-- What shows the verdict at an obligation.
use Rattle.std.specs.Prelude.{◌≡◌, ℕ, ◌*◌, ◌<◌, ◌≤◌, Bool, List, length, slice_get, Some}
use Rattle.pair_decide.specs.declared.query.Query.{Query}
use Rattle.witness_report.specs.declared.witness.PairName.{PairName}
use Rattle.obligations.specs.declared.outcome.verdict.PairResult.{PairResult}
use Rattle.obligations.specs.declared.obligation.Obligation.{Obligation}
use Rattle.obligations.specs.declared.obligation.Difference.{Difference}
use Rattle.obligations.specs.declared.verdict.VerdictAt.{VerdictAt}
use Rattle.obligations.specs.declared.verdict.VerdictAt.TheVariants as at
use Rattle.flat_net.specs.View.{circuit_of}
use Rattle.sec_setup.specs.declared.setup.Setup.{Setup}
use Rattle.circuit_laws.specs.reset_laws.Reset.{powers}
use Rattle.cbf_unfold.specs.shift_variables.Sequences.{bits_at}
use Rattle.cbf_unfold.specs.shift_variables.cycle_variables.Cycles.{AreInCycles}
use Rattle.reset_form.specs.declared.reset_functions.bases.Bases.{Bases}
use Rattle.reset_form.specs.declared.reset_functions.functions.Functions.{Functions}
use Rattle.obligations.specs.declared.outcome.verdict.ResetWitness.{ResetWitness}
use Rattle.reset_form.specs.reset_asked.Sequences.{IsQueryAt, IsSequenceOf}
use Rattle.reset_form.specs.declared.reset_asked.findings.ResetVerdict.{ResetVerdict}
use Rattle.reset_form.specs.declared.reset_asked.findings.ResetVerdict.TheVariants as verdict

-- the bits of a difference give a sequence and power-ups
pub record IsShowableIn (f : Functions) (asked : List Obligation) (d : Difference) : Type 0 where
  pub obligation : Obligation
  pub query : Query
  pub at : IsQueryAt asked d obligation query
  pub left : query.left.0 < 2 * length f.aig
  pub right : query.right.0 < 2 * length f.aig
  pub each : length d.bits ≡ length query.vars
  pub in_order : AreInCycles f.places query.vars

-- its query's place is its cycle
pub record IsShowable (f : Functions) (asked : List Obligation) (d : Difference) : Type 0 where
  pub shown : IsShowableIn f asked d
  pub cycle : d.query ≤ shown.obligation.size

abbrev pub CanBeShown : Functions → List Obligation → List PairResult → VerdictAt → Type 0
CanBeShown f asked results at.Equal = Unit {0}
CanBeShown f asked results (at.Different d) = IsShowable f asked d
CanBeShown f asked results (at.Limit place) = place < length results
CanBeShown f asked results (at.NotShown d) = ⊥

-- a sequence, with the power-ups of both circuits
pub record IsWitnessOf (s : Setup) (b : Bases) (f : Functions) (q : Query) (bits : List Bool) (name : PairName) (last : ℕ) (w : ResetWitness) : Type 0 where
  pub sequence : IsSequenceOf f.aig f.places q bits name last s.columns w.witness
  pub left_power_is : w.left_power ≡ powers (circuit_of s.left.now) b.left (bits_at f.places q.vars bits)
  pub right_power_is : w.right_power ≡ powers (circuit_of s.right.now) b.right (bits_at f.places q.vars bits)

-- those of a difference in the cycle
pub record IsWitnessIn (s : Setup) (b : Bases) (f : Functions) (asked : List Obligation) (cycle : ℕ) (d : Difference) (w : ResetWitness) : Type 0 where
  pub obligation : Obligation
  pub query : Query
  pub at : IsQueryAt asked d obligation query
  pub is : IsWitnessOf s b f query d.bits obligation.name cycle w

-- those of a difference whose query's place is its cycle
abbrev pub IsWitnessAt : Setup → Bases → Functions → List Obligation → Difference → ResetWitness → Type 0
IsWitnessAt s b f asked d w = IsWitnessIn s b f asked d.query d w

abbrev pub IsShown : Setup → Bases → Functions → List Obligation → List PairResult → VerdictAt → ResetVerdict → Type 0
IsShown s b f asked results at.Equal v = v ≡ verdict.Equal
IsShown s b f asked results (at.Different d) v = (w : ResetWitness) × (v ≡ verdict.Different w) × IsWitnessAt s b f asked d w
IsShown s b f asked results (at.Limit place) v = (r : PairResult) × (slice_get results place ≡ Some r) × (v ≡ verdict.Limit r.name)
IsShown s b f asked results (at.NotShown d) v = ⊥

-- What is true where a run ends as it does.
use Rattle.std.specs.Prelude.{◌≡◌, ℕ, List, [], Option, Some, None}
use Rattle.base_shelves.specs.Outside.{Takes, TakesFront}
use Rattle.command_line.specs.declared.task.Task.{Task}
use Rattle.command_line.specs.declared.task.Task.TheVariants as task
use Rattle.pair_decide.specs.declared.query.Proof.{Proof}
use Rattle.job_base.specs.Written.{status_of, proofs_of}
use Rattle.job_base.specs.declared.finding.Finding.{Finding}
use Rattle.job_base.specs.declared.finding.Finding.TheVariants as finding
use Rattle.job_base.specs.declared.status.Status.{Status}
use Rattle.job_base.specs.declared.status.StatusName.{StatusName}
use Rattle.job_base.specs.declared.status.StatusName.TheVariants as status
use Rattle.job_base.specs.Lines.{finding_text}
use Rattle.job_cert.specs.sec_files.Reading.{Held}
use Rattle.job_circuit.specs.Reports.{IsGraphFound, IsSimFound}
use Rattle.job_circuit.specs.SimBehind.{IsSimBehindFound}
use Rattle.job_circuit.specs.job_replay.Replays.{IsReplayFound}
use Rattle.job_circuit.specs.declared.job_replay.replays.ReplayReport.TheVariants as told
use Rattle.job_circuit.specs.job_replay.Told.{report_with}
use Rattle.job_known.specs.Found.{IsResetFound, IsBehindFound}
use Rattle.job_check.specs.check_meaning.check_found.Found.{IsFoundOf}
use Rattle.job_pair.specs.Found.{check_of, IsPairFound}
use Rattle.job_pair.specs.job_renamed.Found.{IsRenamedFound}
use Rattle.job_settles.specs.Found.{IsSettlesFound}
use Rattle.job_signals.specs.Found.{IsSignalsFound}
use Rattle.job_signals.specs.job_begun.Found.{IsBegunFound}
use Rattle.job_under.specs.Found.{IsUnderFound}
use Rattle.job_under.specs.ties.Found.{AreTiesFound}
use Rattle.job_gen.specs.gen_meaning.Found.{IsGenFound}
use Rattle.job_cert.specs.job_lrat.Found.{IsLratFound}
use Rattle.job_cert.specs.Found.{IsCertFound}
use Rattle.job_after.specs.Answer.{IsAfterFound}
use Rattle.job_after_under.specs.Found.{IsAfterUnderFound}
use Rattle.job_after_under.specs.ties.Found.{AreTiesBehindFound}
use Rattle.sec_jobs.specs.job_induct.induct_meaning.Found.{IsInductFound}
use Rattle.sec_jobs.specs.job_search.search_meaning.Found.{IsSearchFound}

-- what is true of a job where this is found
abbrev pub IsFoundOfJob : Held → Task → Finding → Type 0
IsFoundOfJob held (task.Check a b settings assumed) f = IsFoundOf held (record { left = a; right = b; settings = settings; assumed = assumed }) f
IsFoundOfJob held (task.CheckSettles a b settings assumed) f = IsSettlesFound held (record { left = a; right = b; settings = settings; assumed = assumed }) f
IsFoundOfJob held (task.CheckPair a b pair settings) f = IsPairFound held pair (check_of settings a b) f
IsFoundOfJob held (task.CheckRenamed a b pairs settings) f = IsRenamedFound held (check_of settings a b) pairs f
IsFoundOfJob held (task.Graph a mode) f = IsGraphFound mode (held a) f
IsFoundOfJob held (task.Sim a s mode power reset) f = IsSimFound mode (held a) (held s) power reset f
IsFoundOfJob held (task.SimAfter a s rows power) f = IsSimBehindFound (held a) (held rows) (held s) power f
IsFoundOfJob held (task.Replay a b s mode settles) f = IsReplayFound (report_with settles) mode (held a) (held b) (held s) f
IsFoundOfJob held (task.ReplayReset a b s settles) f = IsResetFound settles (held a) (held b) (held s) f
IsFoundOfJob held (task.ReplayAfter a b s rows settles) f = IsBehindFound settles (held a) (held b) (held rows) (held s) f
IsFoundOfJob held (task.Settle a b s mode) f = IsReplayFound told.Settled mode (held a) (held b) (held s) f
IsFoundOfJob held (task.Gen seed regroup conflicts) f = IsGenFound (record { seed = seed; regroup = regroup; conflicts = conflicts }) f
IsFoundOfJob held (task.Lrat f l) found = IsLratFound (held f) (held l) found
IsFoundOfJob held (task.Cert a b pair lrat conflicts) f = IsCertFound (record { pair = pair; refuted = lrat; conflicts = conflicts }) (held a) (held b) f
IsFoundOfJob held (task.Search a b cycles conflicts) f = IsSearchFound cycles conflicts (held a) (held b) f
IsFoundOfJob held (task.SearchUnder a b c cycles conflicts) f = IsUnderFound cycles conflicts (held a) (held b) (held c) f
IsFoundOfJob held (task.After a b s cycles conflicts) f = IsAfterFound cycles conflicts (held a) (held b) (held s) f
IsFoundOfJob held (task.AfterUnder a b c s cycles conflicts) f = IsAfterUnderFound cycles conflicts (held a) (held b) (held c) (held s) f
IsFoundOfJob held (task.Induct a b conflicts) f = IsInductFound conflicts (held a) (held b) f
IsFoundOfJob held (task.InductSignals a b conflicts) f = IsSignalsFound (held a) (held b) f
IsFoundOfJob held (task.InductUnder a b c conflicts) f = AreTiesFound conflicts (held a) (held b) (held c) f
IsFoundOfJob held (task.InductAfter a b s signals conflicts) f = IsBegunFound signals conflicts (held a) (held b) (held s) f
IsFoundOfJob held (task.InductAfterUnder a b c s conflicts) f = AreTiesBehindFound conflicts (held a) (held b) (held c) (held s) f

-- what is found: that the words are no job, or what is true of the job
abbrev pub IsFinding : Held → Option Task → Finding → Type 0
IsFinding held None f = f ≡ finding.Words
IsFinding held (Some job) f = IsFoundOfJob held job f

-- With a finding its whole report is taken, and the status has its proofs; at a write fault a front of the report; else nothing.
abbrev pub EndsAs : Option (List ℕ) → Option (List ℕ) → Held → Option Task → List Proof → StatusName → Type 0
EndsAs before now held job proofs status.ReadFault = (now ≡ before) × (proofs ≡ [])
EndsAs before now held job proofs status.NoMemory = (now ≡ before) × (proofs ≡ [])
EndsAs before now held job proofs status.WriteFault = (f : Finding) × IsFinding held job f × (proofs ≡ proofs_of f) × TakesFront before now (finding_text f)
EndsAs before now held job proofs name = (f : Finding) × IsFinding held job f × (proofs ≡ proofs_of f) × (status_of f ≡ name) × Takes before now (finding_text f)

-- What is right of the job was found, its report isn't accepted, and a front of it is taken.
pub record IsCutOff (accepts : List ℕ → Type 0) (before now : Option (List ℕ)) (held : Held) (job : Option Task) (proofs : List Proof) : Type 0 where
  pub finding : Finding
  pub found : IsFinding held job finding
  pub proofs_are : proofs ≡ proofs_of finding
  pub front : TakesFront before now (finding_text finding)
  pub refused : accepts (finding_text finding) → ⊥

abbrev pub IsTaken : Option (List ℕ) → Option (List ℕ) → Held → Option Task → Status → Type 0
IsTaken before now held job s = EndsAs before now held job s.proofs s.name

-- How the work on a replay ends.
use Rattle.std.specs.Prelude.{◌≡◌, ◌⊎◌, ℕ, Bool, List, Option, Result, Ok, Err, IfSome}
use Rattle.circuit_theory.specs.declared.Mode.{Mode}
use Rattle.flat_net.specs.View.{NetView}
use Rattle.circuit_report.specs.declared.sim_report.refusal.Misfit.TheVariants as misfit
use Rattle.job_circuit.specs.declared.job_replay.fault.ReplayFault.{ReplayFault}
use Rattle.job_circuit.specs.declared.job_replay.fault.ReplayFault.TheVariants as fault
use Rattle.job_circuit.specs.declared.job_replay.replays.ReplayReport.{ReplayReport}
use Rattle.job_circuit.specs.job_replay.Told.{FindsIn}
use Rattle.job_base.specs.declared.sec_files.loader.LoadError.{LoadError}
use Rattle.job_base.specs.declared.sec_files.stimuli.StimulusError.{StimulusError}
use Rattle.job_base.specs.sec_files.Loading.{Loads, LoadFails}
use Rattle.job_base.specs.sec_files.Stimuli.{IsStimulus, StimulusFails}
use Rattle.job_base.specs.declared.finding.File.TheVariants as file
use Rattle.job_base.specs.declared.finding.Refusal.TheVariants as refusal
use Rattle.job_base.specs.declared.finding.Finding.{Finding}
use Rattle.job_base.specs.declared.finding.Finding.TheVariants as finding
use Rattle.job_base.specs.declared.finding.Stop.{Stop}
use Rattle.job_base.specs.declared.finding.Stop.TheVariants as stop
use Rattle.job_base.specs.Ends.{EndsBy}
use Rattle.job_base.specs.sec_files.job_files.Ends.{load_end, stimulus_end}
use Rattle.job_base.specs.sec_files.job_files.Reading.{Held, ReadFailed}
use Rattle.job_circuit.specs.job_replay.Replays.{IsReplayFound, replay_paths}

-- the paths of two circuits and of a stimulus, the mode, and what is to be told
pub record ReplayJob : Type 0 where
  pub left : List ℕ
  pub right : List ℕ
  pub stimulus : List ℕ
  pub mode : Mode
  pub report : ReplayReport

-- what is found by a replay, or why both circuits weren't run
abbrev pub replay_end : Result Finding ReplayFault → Result Finding Stop
replay_end (Ok f) = Ok f
replay_end (Err (fault.Interface name)) = Ok (finding.Refused (refusal.Interface name))
replay_end (Err (fault.TooLarge side)) = Ok (finding.Refused (refusal.TooLarge side))
replay_end (Err (fault.Limit side name proof)) = Ok (finding.Undecided side name proof)
replay_end (Err (fault.Unknown name)) = Ok (finding.Refused (refusal.Misfit (misfit.Unknown name)))
replay_end (Err (fault.Missing name)) = Ok (finding.Refused (refusal.Misfit (misfit.Missing name)))
replay_end (Err fault.NoMemory) = Err stop.NoMemory

-- the work on a replay ends with a finding that is right, or by a read that failed, or at want of memory
abbrev pub ReplayFound : Held → (List ℕ → ℕ) → (List ℕ → ℕ) → ReplayJob → Result Finding Stop → Type 0
ReplayFound held before now job r = EndsBy (IsReplayFound job.report job.mode (held job.left) (held job.right) (held job.stimulus)) (ReadFailed held before now (replay_paths job.left job.right job.stimulus)) r

-- How the work on the stimulus ends beside both nets: it isn't loaded, by what is held of it and whether a read of it failed; or both
-- nets are run over it.
abbrev pub EndsOver : ReplayReport → Mode → Option (List ℕ) → Type 0 → NetView → NetView → Result Finding Stop → Type 0
EndsOver report mode text rose a b r =
    ((error : StimulusError) × StimulusFails text rose error × (r ≡ stimulus_end error))
    ⊎ ((names : List (List ℕ)) × (rows : List (List Bool)) × (found : Result Finding ReplayFault) × IfSome text (λ z. IsStimulus z names rows) × FindsIn report mode a b names rows found × (r ≡ replay_end found))

-- the same of the work on B's file and the stimulus beside A's net
abbrev pub EndsWithBoth : ReplayReport → Mode → Option (List ℕ) → Type 0 → Option (List ℕ) → Type 0 → NetView → Result Finding Stop → Type 0
EndsWithBoth report mode right right_rose text rose a r =
    ((error : LoadError) × LoadFails right right_rose error × (r ≡ load_end file.B error))
    ⊎ ((b : NetView) × IfSome right (λ y. Loads y b) × EndsOver report mode text rose a b r)

-- What a job asks for.
use Rattle.std.specs.Prelude.{ℕ, List, [], Option, Some, None}
use Rattle.command_line.specs.declared.task.Task.{Task}
use Rattle.command_line.specs.declared.task.Task.TheVariants as task
use Rattle.job_cert.specs.sec_files.Reading.{IsLoaded}
use Rattle.job_circuit.specs.Reports.{graph_paths, sim_paths}
use Rattle.job_circuit.specs.SimBehind.{behind_paths, LetsGoOn}
use Rattle.job_circuit.specs.job_replay.Replays.{replay_paths}
use Rattle.job_known.specs.Found.{known_paths}
use Rattle.job_check.specs.check_meaning.check_found.Check.{check_paths}
use Rattle.job_pair.specs.Found.{check_of}
use Rattle.job_pair.specs.job_renamed.Found.{renamed_paths}
use Rattle.job_cert.specs.job_lrat.Found.{lrat_paths, AreSpelled}
use Rattle.job_cert.specs.Found.{cert_paths}
use Rattle.sec_jobs.specs.job_induct.induct_meaning.Found.{induct_paths}
use Rattle.job_under.specs.Found.{under_paths}
use Rattle.job_after_under.specs.Found.{after_under_paths}

-- the paths that a job reads, in the order of their fetches; none where it makes its circuits itself
abbrev pub paths_of : Task → List (List ℕ)
paths_of (task.Check a b settings assumed) = check_paths (record { left = a; right = b; settings = settings; assumed = assumed })
paths_of (task.CheckSettles a b settings assumed) = check_paths (record { left = a; right = b; settings = settings; assumed = assumed })
paths_of (task.CheckPair a b pair settings) = check_paths (check_of settings a b)
paths_of (task.CheckRenamed a b pairs settings) = renamed_paths a b pairs
paths_of (task.Graph a mode) = graph_paths a
paths_of (task.Sim a s mode power reset) = sim_paths a s
paths_of (task.SimAfter a s rows power) = behind_paths a rows s
paths_of (task.Replay a b s mode settles) = replay_paths a b s
paths_of (task.ReplayReset a b s settles) = replay_paths a b s
paths_of (task.ReplayAfter a b s rows settles) = known_paths a b rows s
paths_of (task.Settle a b s mode) = replay_paths a b s
paths_of (task.Gen seed regroup conflicts) = []
paths_of (task.Lrat f l) = lrat_paths f l
paths_of (task.Cert a b pair lrat conflicts) = cert_paths a b
paths_of (task.Search a b cycles conflicts) = induct_paths a b
paths_of (task.SearchUnder a b c cycles conflicts) = under_paths a b c
paths_of (task.After a b s cycles conflicts) = replay_paths a b s
paths_of (task.AfterUnder a b c s cycles conflicts) = after_under_paths a b c s
paths_of (task.Induct a b conflicts) = induct_paths a b
paths_of (task.InductSignals a b conflicts) = induct_paths a b
paths_of (task.InductUnder a b c conflicts) = under_paths a b c
paths_of (task.InductAfter a b s signals conflicts) = replay_paths a b s
paths_of (task.InductAfterUnder a b c s conflicts) = after_under_paths a b c s

-- none where the words are no job
abbrev pub paths_in : Option Task → List (List ℕ)
paths_in None = []
paths_in (Some job) = paths_of job

-- what is held at a path of the job lets the work go on to the next one: its circuit loads, or its clauses are spelled
abbrev pub GoesOn : Task → Option (List ℕ) → Type 0
GoesOn (task.Check a b settings assumed) = IsLoaded
GoesOn (task.CheckSettles a b settings assumed) = IsLoaded
GoesOn (task.CheckPair a b pair settings) = IsLoaded
GoesOn (task.CheckRenamed a b pairs settings) = IsLoaded
GoesOn (task.Graph a mode) = IsLoaded
GoesOn (task.Sim a s mode power reset) = IsLoaded
GoesOn (task.SimAfter a s rows power) = LetsGoOn
GoesOn (task.Replay a b s mode settles) = IsLoaded
GoesOn (task.ReplayReset a b s settles) = IsLoaded
GoesOn (task.ReplayAfter a b s rows settles) = LetsGoOn
GoesOn (task.Settle a b s mode) = IsLoaded
GoesOn (task.Gen seed regroup conflicts) = IsLoaded
GoesOn (task.Lrat f l) = AreSpelled
GoesOn (task.Cert a b pair lrat conflicts) = IsLoaded
GoesOn (task.Search a b cycles conflicts) = IsLoaded
GoesOn (task.SearchUnder a b c cycles conflicts) = IsLoaded
GoesOn (task.After a b s cycles conflicts) = IsLoaded
GoesOn (task.AfterUnder a b c s cycles conflicts) = IsLoaded
GoesOn (task.Induct a b conflicts) = IsLoaded
GoesOn (task.InductSignals a b conflicts) = IsLoaded
GoesOn (task.InductUnder a b c conflicts) = IsLoaded
GoesOn (task.InductAfter a b s signals conflicts) = IsLoaded
GoesOn (task.InductAfterUnder a b c s conflicts) = IsLoaded

-- words that are no job read nothing
abbrev pub GoesOnIn : Option Task → Option (List ℕ) → Type 0
GoesOnIn None = IsLoaded
GoesOnIn (Some job) = GoesOn job

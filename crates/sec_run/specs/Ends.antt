-- How the work on a job ends.
use Rattle.std.specs.Prelude.{ℕ, List, Result}
use Rattle.command_line.specs.declared.task.Task.{Task}
use Rattle.job_base.specs.Ends.{EndsBy}
use Rattle.job_base.specs.Reading.{ReadFailedAfter}
use Rattle.job_base.specs.declared.finding.Finding.{Finding}
use Rattle.job_base.specs.declared.finding.Stop.{Stop}
use Rattle.job_cert.specs.sec_files.Reading.{Held}
use Rattle.sec_run.specs.Answer.{IsFoundOfJob}
use Rattle.sec_run.specs.Job.{paths_of, GoesOn}

-- the work on a job ends with a finding that is right, or by a read that failed, or at want of memory
abbrev pub Found : Held → (List ℕ → ℕ) → (List ℕ → ℕ) → Task → Result Finding Stop → Type 0
Found held before now job r = EndsBy (IsFoundOfJob held job) (ReadFailedAfter (GoesOn job) held before now (paths_of job)) r

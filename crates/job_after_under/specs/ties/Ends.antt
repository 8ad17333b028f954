-- How the comparison by ties of signals ends.
use Rattle.std.specs.Prelude.{ℕ, Bool, List, Result}
use Rattle.flat_net.specs.View.{NetView}
use Rattle.job_base.specs.Ends.{EndsBy}
use Rattle.job_base.specs.declared.finding.Finding.{Finding}
use Rattle.job_base.specs.declared.finding.Stop.{Stop}
use Rattle.job_base.specs.sec_files.job_files.Reading.{Held, ReadFailed}
use Rattle.job_after.specs.declared.judging.Judged.{Judged}
use Rattle.job_under.specs.ties.Found.{TiesRefuse}
use Rattle.job_after_under.specs.declared.fault.Fault.{Fault}
use Rattle.job_after_under.specs.Found.{after_under_paths}
use Rattle.job_after_under.specs.Ends.{IsJudgedOr}
use Rattle.job_after_under.specs.ties.Judged.{AreJudged}
use Rattle.job_after_under.specs.ties.Found.{AreTiesBehindFound}

-- the judgement of both nets under the third, or the first refusal
abbrev pub AreJudgedBy : NetView → NetView → NetView → List (List ℕ) → List (List Bool) → ℕ → Result Judged Fault → Type 0
AreJudgedBy a b c names rows conflicts r = IsJudgedOr (TiesRefuse conflicts) (AreJudged conflicts) a b c names rows r

-- the paths of two circuits, of the assumption and of a stimulus, and the limit of conflicts
pub record TiesBehindJob : Type 0 where
  pub left : List ℕ
  pub right : List ℕ
  pub assumed : List ℕ
  pub stimulus : List ℕ
  pub conflicts : ℕ

-- the work on four files ends with a finding that is right, or by a read that failed, or at want of memory
abbrev pub TiesBehindFound : Held → (List ℕ → ℕ) → (List ℕ → ℕ) → TiesBehindJob → Result Finding Stop → Type 0
TiesBehindFound held before now job r =
    EndsBy (AreTiesBehindFound job.conflicts (held job.left) (held job.right) (held job.assumed) (held job.stimulus)) (ReadFailed held before now (after_under_paths job.left job.right job.assumed job.stimulus)) r

-- How a search under an assumption ends.
use Rattle.std.specs.Prelude.{ℕ, List, Option, IfSome, Result, Ok, Err}
use Rattle.flat_net.specs.Comparable.{IsComparable}
use Rattle.flat_net.specs.View.{NetView}
use Rattle.pair_decide.specs.declared.query.Proof.{Proof}
use Rattle.job_base.specs.sec_files.Loading.{Loads}
use Rattle.job_base.specs.Ends.{EndsBy}
use Rattle.job_base.specs.declared.finding.Refusal.TheVariants as refusal
use Rattle.job_base.specs.declared.finding.Judgement.{Judgement}
use Rattle.job_base.specs.declared.finding.Finding.{Finding}
use Rattle.job_base.specs.declared.finding.Finding.TheVariants as finding
use Rattle.job_base.specs.declared.finding.Stop.{Stop}
use Rattle.job_base.specs.declared.finding.Stop.TheVariants as stop
use Rattle.job_base.specs.sec_files.job_files.Reading.{Held, ReadFailed}
use Rattle.cycle_under.specs.declared.found.UnderError.{UnderError}
use Rattle.cycle_under.specs.declared.found.UnderError.TheVariants as under
use Rattle.job_under.specs.declared.judging.Judged.{Judged}
use Rattle.job_under.specs.declared.reading.ReadThree.{ReadThree}
use Rattle.job_under.specs.declared.reading.ReadThree.TheVariants as read
use Rattle.job_under.specs.Found.{under_paths, IsUnread, SearchRefuses, IsUnderFound}
use Rattle.job_under.specs.Judged.{IsJudged}

-- the paths of two circuits and of the assumption, the last cycle, and the limit of conflicts
pub record UnderJob : Type 0 where
  pub left : List ℕ
  pub right : List ℕ
  pub assumed : List ℕ
  pub cycles : ℕ
  pub conflicts : ℕ

-- all three circuits, by what is held of them; or how the work ends where one of them isn't loaded
abbrev pub IsRead : Held → (List ℕ → ℕ) → (List ℕ → ℕ) → List ℕ → List ℕ → List ℕ → ReadThree → Type 0
IsRead held before now left right assumed (read.Whole a b c) =
    IfSome (held left) (λ x. Loads x a) × IfSome (held right) (λ y. Loads y b) × IfSome (held assumed) (λ z. Loads z c) × IsComparable a × IsComparable b × IsComparable c
IsRead held before now left right assumed (read.Ended end) = EndsBy (IsUnread (held left) (held right) (held assumed)) (ReadFailed held before now (under_paths left right assumed)) end

-- the judgement of both nets under the third, or the first refusal
abbrev pub IsJudgedOr : (NetView → NetView → NetView → UnderError → Type 0) → (NetView → NetView → NetView → Judgement → List Proof → List ℕ → Type 0) → NetView → NetView → NetView → Result Judged UnderError → Type 0
IsJudgedOr Refuses Judges a b c (Ok j) = Judges a b c j.judgement j.proofs j.text
IsJudgedOr Refuses Judges a b c (Err e) = Refuses a b c e

-- that of the search
abbrev pub IsJudgedBy : NetView → NetView → NetView → ℕ → ℕ → Result Judged UnderError → Type 0
IsJudgedBy a b c cycles conflicts r = IsJudgedOr (SearchRefuses cycles conflicts) (λ l m n j proofs text. IsJudged l m n cycles conflicts j proofs text) a b c r

-- what is found by it
abbrev pub under_end : Result Judged UnderError → Result Finding Stop
under_end (Ok j) = Ok (finding.Judged j.judgement j.proofs j.text)
under_end (Err (under.Interface name)) = Ok (finding.Refused (refusal.Interface name))
under_end (Err (under.Assume fault)) = Ok (finding.Refused (refusal.Assume fault))
under_end (Err (under.Vacuous by)) = Ok (finding.Refused refusal.Vacuous)
under_end (Err (under.TooLarge side)) = Ok (finding.Refused (refusal.TooLarge side))
under_end (Err under.NoMemory) = Err stop.NoMemory

-- the work on three files ends with a finding that is right, or by a read that failed, or at want of memory
abbrev pub UnderFound : Held → (List ℕ → ℕ) → (List ℕ → ℕ) → UnderJob → Result Finding Stop → Type 0
UnderFound held before now job r = EndsBy (IsUnderFound job.cycles job.conflicts (held job.left) (held job.right) (held job.assumed)) (ReadFailed held before now (under_paths job.left job.right job.assumed)) r

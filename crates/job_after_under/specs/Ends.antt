-- How the job ends.
use Rattle.std.specs.Prelude.{◌≡◌, ℕ, Bool, List, length, Option, IfSome, Result, Ok, Err}
use Rattle.flat_net.specs.Comparable.{IsComparable}
use Rattle.flat_net.specs.View.{NetView}
use Rattle.pair_decide.specs.declared.query.Proof.{Proof}
use Rattle.witness_report.specs.declared.witness.Witness.{Witness}
use Rattle.circuit_report.specs.declared.sim_report.refusal.Misfit.TheVariants as misfit
use Rattle.job_circuit.specs.declared.replay.replay_header.error.ReplayError.{ReplayError}
use Rattle.job_circuit.specs.declared.replay.replay_header.error.ReplayError.TheVariants as header
use Rattle.job_base.specs.declared.finding.Judgement.{Judgement}
use Rattle.job_base.specs.declared.finding.Refusal.TheVariants as refusal
use Rattle.job_base.specs.declared.finding.Finding.{Finding}
use Rattle.job_base.specs.declared.finding.Finding.TheVariants as finding
use Rattle.job_base.specs.declared.finding.Stop.{Stop}
use Rattle.job_base.specs.declared.finding.Stop.TheVariants as stop
use Rattle.job_base.specs.Ends.{EndsBy}
use Rattle.job_base.specs.sec_files.Loading.{Loads}
use Rattle.job_base.specs.sec_files.Stimuli.{IsStimulus}
use Rattle.job_base.specs.sec_files.job_files.Reading.{Held, ReadFailed}
use Rattle.cycle_search.specs.declared.found.Searched.{Searched}
use Rattle.cycle_under.specs.declared.found.UnderError.{UnderError}
use Rattle.cycle_under.specs.declared.found.UnderError.TheVariants as under
use Rattle.job_under.specs.Found.{SearchRefuses}
use Rattle.job_after.specs.declared.judging.Judged.{Judged}
use Rattle.job_after.specs.Answer.{IsRefusedSearch}
use Rattle.job_after.specs.Ends.{FitsAfter}
use Rattle.job_after.specs.Judged.{judgement_of, proofs_of}
use Rattle.job_after_under.specs.declared.fault.Fault.{Fault}
use Rattle.job_after_under.specs.declared.fault.Fault.TheVariants as fault
use Rattle.job_after_under.specs.declared.reading.ReadFour.{ReadFour}
use Rattle.job_after_under.specs.declared.reading.ReadFour.TheVariants as read
use Rattle.job_after_under.specs.Found.{after_under_paths, IsUnread, IsAfterUnderFound}
use Rattle.job_after_under.specs.Judged.{IsShownUnder, IsJudged}
use Rattle.job_after_under.specs.Report.{behind_text}

-- the paths of two circuits, of the assumption and of a stimulus, the last cycle behind its rows, and the limit of conflicts
pub record AfterUnderJob : Type 0 where
  pub left : List ℕ
  pub right : List ℕ
  pub assumed : List ℕ
  pub stimulus : List ℕ
  pub cycles : ℕ
  pub conflicts : ℕ

-- what is told of a search of two nets that begin behind the rows: by the difference that is shown, if one is
pub record IsTold (a b c : NetView) (names : List (List ℕ)) (rows : List (List Bool)) (left right : List (Option Bool)) (cycles conflicts : ℕ) (name : List ℕ) (s : Searched) (j : Judged) : Type 0 where
  pub shown : Option Witness
  pub is_shown : IfSome shown (IsShownUnder a b c names rows)
  pub judgement_is : j.judgement ≡ judgement_of s.verdict shown
  pub proofs_are : j.proofs ≡ proofs_of s.pairs
  pub text_is : j.text ≡ behind_text a b name cycles conflicts (length rows) left right shown s

-- the judgement of both nets under the third, or the first refusal: the stimulus doesn't fit, or the nets that begin behind its rows are refused
abbrev pub IsJudgedOr : (NetView → NetView → NetView → UnderError → Type 0) → (NetView → NetView → NetView → List (List ℕ) → List (List Bool) → Judgement → List Proof → List ℕ → Type 0) → NetView → NetView → NetView → List (List ℕ) → List (List Bool) → Result Judged Fault → Type 0
IsJudgedOr Refuses Judges a b c names rows (Ok j) = Judges a b c names rows j.judgement j.proofs j.text
IsJudgedOr Refuses Judges a b c names rows (Err (fault.Header e)) = FitsAfter a b names (Err e)
IsJudgedOr Refuses Judges a b c names rows (Err (fault.Search e)) = IsRefusedSearch a b names rows (λ l r. Refuses l r c e)
IsJudgedOr Refuses Judges a b c names rows (Err fault.NoMemory) = Unit {0}

-- that of the search
abbrev pub IsJudgedBy : NetView → NetView → NetView → List (List ℕ) → List (List Bool) → ℕ → ℕ → Result Judged Fault → Type 0
IsJudgedBy a b c names rows cycles conflicts r = IsJudgedOr (SearchRefuses cycles conflicts) (λ d e f ns rs j proofs text. IsJudged d e f ns rs cycles conflicts j proofs text) a b c names rows r

-- what is found where the stimulus doesn't fit, where the search refuses, and by the judgement
abbrev pub header_end : ReplayError → Result Finding Stop
header_end (header.Unknown name) = Ok (finding.Refused (refusal.Misfit (misfit.Unknown name)))
header_end (header.Missing name) = Ok (finding.Refused (refusal.Misfit (misfit.Missing name)))
header_end header.NoMemory = Err stop.NoMemory

abbrev pub search_end : UnderError → Result Finding Stop
search_end (under.Interface name) = Ok (finding.Refused (refusal.Interface name))
search_end (under.Assume f) = Ok (finding.Refused (refusal.Assume f))
search_end (under.Vacuous by) = Ok (finding.Refused refusal.Vacuous)
search_end (under.TooLarge side) = Ok (finding.Refused (refusal.TooLarge side))
search_end under.NoMemory = Err stop.NoMemory

abbrev pub fault_end : Result Judged Fault → Result Finding Stop
fault_end (Ok j) = Ok (finding.Judged j.judgement j.proofs j.text)
fault_end (Err (fault.Header e)) = header_end e
fault_end (Err (fault.Search e)) = search_end e
fault_end (Err fault.NoMemory) = Err stop.NoMemory

-- all four, by what is held of them; or how the work ends where one of them isn't loaded
abbrev pub IsRead : Held → (List ℕ → ℕ) → (List ℕ → ℕ) → List ℕ → List ℕ → List ℕ → List ℕ → ReadFour → Type 0
IsRead held before now left right assumed stimulus (read.Whole a b c s) =
    IfSome (held left) (λ x. Loads x a) × IfSome (held right) (λ y. Loads y b) × IfSome (held assumed) (λ u. Loads u c) × IfSome (held stimulus) (λ z. IsStimulus z s.names s.rows) × IsComparable a × IsComparable b × IsComparable c
IsRead held before now left right assumed stimulus (read.Ended end) =
    EndsBy (IsUnread (held left) (held right) (held assumed) (held stimulus)) (ReadFailed held before now (after_under_paths left right assumed stimulus)) end

-- the work on four files ends with a finding that is right, or by a read that failed, or at want of memory
abbrev pub AfterUnderFound : Held → (List ℕ → ℕ) → (List ℕ → ℕ) → AfterUnderJob → Result Finding Stop → Type 0
AfterUnderFound held before now job r =
    EndsBy (IsAfterUnderFound job.cycles job.conflicts (held job.left) (held job.right) (held job.assumed) (held job.stimulus)) (ReadFailed held before now (after_under_paths job.left job.right job.assumed job.stimulus)) r

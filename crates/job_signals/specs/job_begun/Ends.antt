-- How the job ends.
use Rattle.std.specs.Prelude.{◌≡◌, ℕ, Bool, List, [], Some, Result, Ok, Err}
use Rattle.circuit_theory.specs.Interface.{first_mismatch}
use Rattle.flat_net.specs.View.{NetView, ports_of}
use Rattle.sec_setup.specs.Matching.{InterfacesMatch}
use Rattle.job_circuit.specs.declared.replay.replay_header.error.ReplayError.TheVariants as header
use Rattle.job_circuit.specs.replay.replay_header.Header.{FitsOr}
use Rattle.job_circuit.specs.job_replay.Replays.{replay_paths}
use Rattle.job_base.specs.declared.finding.Finding.{Finding}
use Rattle.job_base.specs.declared.finding.Stop.{Stop}
use Rattle.job_base.specs.Ends.{EndsBy}
use Rattle.job_base.specs.sec_files.job_files.Reading.{Held, ReadFailed}
use Rattle.sec_jobs.specs.declared.job_induct.judging.Judged as judged_blocks
use Rattle.sec_jobs.specs.declared.job_induct.judging.JudgeError as blocks_error
use Rattle.sec_jobs.specs.declared.job_induct.judging.JudgeError.TheVariants as blocks
use Rattle.job_signals.specs.declared.judging.Judged as judged_ties
use Rattle.job_signals.specs.declared.judging.JudgeError as ties_error
use Rattle.job_signals.specs.declared.judging.JudgeError.TheVariants as ties
use Rattle.job_after.specs.declared.fault.AfterFault.{AfterFault}
use Rattle.job_after.specs.declared.fault.AfterFault.TheVariants as fault
use Rattle.job_after.specs.declared.judging.Judged.{Judged}
use Rattle.job_after.specs.Answer.{IsUnfit, IsRefusedSearch}
use Rattle.job_signals.specs.job_begun.Judged.{IsTold, IsJudged}
use Rattle.job_signals.specs.job_begun.Found.{IsHeavy, IsBegunFound}

-- what is judged by ties, without proofs, or its refusal
abbrev pub by_ties : Result judged_ties.Judged ties_error.JudgeError → Result Judged AfterFault
by_ties (Ok j) = Ok (record { judgement = j.judgement; proofs = []; text = j.text })
by_ties (Err (ties.Interface name)) = Err (fault.Interface name)
by_ties (Err (ties.TooLarge side)) = Err (fault.TooLarge side)
by_ties (Err ties.NoMemory) = Err fault.NoMemory

-- what is judged by blocks
abbrev pub by_blocks : Result judged_blocks.Judged blocks_error.JudgeError → Result Judged AfterFault
by_blocks (Ok j) = Ok (record { judgement = j.judgement; proofs = j.proofs; text = j.text })
by_blocks (Err (blocks.Interface name)) = Err (fault.Interface name)
by_blocks (Err (blocks.TooLarge side)) = Err (fault.TooLarge side)
by_blocks (Err blocks.NoMemory) = Err fault.NoMemory

-- the judgement of the nets that begin behind the rows, or the first refusal: the interface; A's size, B's size
abbrev pub IsToldBy : Bool → ℕ → NetView → NetView → Result Judged AfterFault → Type 0
IsToldBy signals conflicts l r (Ok j) = IsTold signals conflicts l r j.judgement j.proofs j.text
IsToldBy signals conflicts l r (Err (fault.Interface name)) = first_mismatch (ports_of l) (ports_of r) ≡ Some name
IsToldBy signals conflicts l r (Err (fault.TooLarge side)) = InterfacesMatch l r × IsHeavy l r side
IsToldBy signals conflicts l r (Err fault.NoMemory) = Unit {0}
IsToldBy signals conflicts l r (Err other) = ⊥

-- the judgement of both nets, or the first refusal
abbrev pub IsJudgedBy : Bool → ℕ → NetView → NetView → List (List ℕ) → List (List Bool) → Result Judged AfterFault → Type 0
IsJudgedBy signals conflicts a b names rows (Ok j) = IsJudged signals conflicts a b names rows j.judgement j.proofs j.text
IsJudgedBy signals conflicts a b names rows (Err (fault.Unknown name)) = IsUnfit a b names name
IsJudgedBy signals conflicts a b names rows (Err (fault.Missing name)) = FitsOr a b names (Err (header.Missing name))
IsJudgedBy signals conflicts a b names rows (Err (fault.Interface name)) = IsRefusedSearch a b names rows (λ l r. first_mismatch (ports_of l) (ports_of r) ≡ Some name)
IsJudgedBy signals conflicts a b names rows (Err (fault.Cyclic side latches)) = ⊥
IsJudgedBy signals conflicts a b names rows (Err (fault.TooLarge side)) = IsRefusedSearch a b names rows (λ l r. InterfacesMatch l r × IsHeavy l r side)
IsJudgedBy signals conflicts a b names rows (Err fault.NoMemory) = Unit {0}

-- the paths of two circuits and of a stimulus, whether ties of signals are asked for, and the limit of conflicts
pub record BegunJob : Type 0 where
  pub left : List ℕ
  pub right : List ℕ
  pub stimulus : List ℕ
  pub signals : Bool
  pub conflicts : ℕ

-- the work on three files ends with a finding that is right, or by a read that failed, or at want of memory
abbrev pub BegunFound : Held → (List ℕ → ℕ) → (List ℕ → ℕ) → BegunJob → Result Finding Stop → Type 0
BegunFound held before now job r = EndsBy (IsBegunFound job.signals job.conflicts (held job.left) (held job.right) (held job.stimulus)) (ReadFailed held before now (replay_paths job.left job.right job.stimulus)) r

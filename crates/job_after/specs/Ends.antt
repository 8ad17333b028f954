-- How the job ends.
use Rattle.std.specs.Prelude.{◌≡◌, ℕ, Bool, List, [], Option, Some, None, Result, Ok, Err}
use Rattle.circuit_theory.specs.Interface.{first_mismatch}
use Rattle.flat_net.specs.View.{NetView, ports_of}
use Rattle.sec_setup.specs.Matching.{InterfacesMatch}
use Rattle.circuit_report.specs.declared.sim_report.refusal.Misfit.TheVariants as misfit
use Rattle.job_circuit.specs.declared.replay.replay_header.error.ReplayError.{ReplayError}
use Rattle.job_circuit.specs.declared.replay.replay_header.error.ReplayError.TheVariants as header
use Rattle.job_circuit.specs.replay.replay_header.Header.{FitsBoth, FitsOr, opened}
use Rattle.job_circuit.specs.job_replay.Replays.{replay_paths}
use Rattle.job_base.specs.declared.finding.Refusal.TheVariants as refusal
use Rattle.job_base.specs.declared.finding.Finding.{Finding}
use Rattle.job_base.specs.declared.finding.Finding.TheVariants as finding
use Rattle.job_base.specs.declared.finding.Stop.{Stop}
use Rattle.job_base.specs.declared.finding.Stop.TheVariants as stop
use Rattle.job_base.specs.Ends.{EndsBy}
use Rattle.job_base.specs.sec_files.job_files.Reading.{Held, ReadFailed}
use Rattle.cycle_search.specs.declared.found.SearchError.{SearchError}
use Rattle.cycle_search.specs.declared.found.SearchError.TheVariants as search
use Rattle.job_after.specs.declared.fault.AfterFault.{AfterFault}
use Rattle.job_after.specs.declared.fault.AfterFault.TheVariants as fault
use Rattle.job_after.specs.declared.judging.Judged.{Judged}
use Rattle.job_after.specs.Last.{IsCyclic}
use Rattle.job_after.specs.Judged.{IsJudged}
use Rattle.job_after.specs.Answer.{AfterJob, IsAfterFound, IsUnfit, IsRefusedSearch, IsWide}

-- the fault by the search's, or by the header's
abbrev pub search_fault : SearchError → AfterFault
search_fault (search.Interface name) = fault.Interface name
search_fault (search.TooLarge side) = fault.TooLarge side
search_fault search.NoMemory = fault.NoMemory

abbrev pub header_fault : ReplayError → AfterFault
header_fault (header.Unknown name) = fault.Unknown name
header_fault (header.Missing name) = fault.Missing name
header_fault header.NoMemory = fault.NoMemory

-- the stimulus fits both circuits and names inputs alone, or this is the first name that doesn't fit
abbrev pub FitsAfter : NetView → NetView → List (List ℕ) → Result (Unit {0}) ReplayError → Type 0
FitsAfter a b names (Ok done) = FitsBoth a b names × (opened a b names ≡ [])
FitsAfter a b names (Err (header.Unknown name)) = IsUnfit a b names name
FitsAfter a b names (Err (header.Missing name)) = FitsOr a b names (Err (header.Missing name))
FitsAfter a b names (Err header.NoMemory) = Unit {0}

-- the judgement of both nets, or the first refusal
abbrev pub IsJudgedBy : NetView → NetView → List (List ℕ) → List (List Bool) → Option ℕ → ℕ → Result Judged AfterFault → Type 0
IsJudgedBy a b names rows wanted conflicts (Ok j) = IsJudged a b names rows wanted conflicts j.judgement j.proofs j.text
IsJudgedBy a b names rows wanted conflicts (Err (fault.Unknown name)) = IsUnfit a b names name
IsJudgedBy a b names rows wanted conflicts (Err (fault.Missing name)) = FitsOr a b names (Err (header.Missing name))
IsJudgedBy a b names rows wanted conflicts (Err (fault.Interface name)) = IsRefusedSearch a b names rows (λ l r. first_mismatch (ports_of l) (ports_of r) ≡ Some name)
IsJudgedBy a b names rows wanted conflicts (Err (fault.Cyclic side latches)) = (wanted ≡ None) × IsRefusedSearch a b names rows (λ l r. IsCyclic l r side latches)
IsJudgedBy a b names rows wanted conflicts (Err (fault.TooLarge side)) = IsRefusedSearch a b names rows (λ l r. InterfacesMatch l r × IsWide l r side)
IsJudgedBy a b names rows wanted conflicts (Err fault.NoMemory) = Unit {0}

-- what is found by it
abbrev pub after_end : Result Judged AfterFault → Result Finding Stop
after_end (Ok j) = Ok (finding.Judged j.judgement j.proofs j.text)
after_end (Err (fault.Unknown name)) = Ok (finding.Refused (refusal.Misfit (misfit.Unknown name)))
after_end (Err (fault.Missing name)) = Ok (finding.Refused (refusal.Misfit (misfit.Missing name)))
after_end (Err (fault.Interface name)) = Ok (finding.Refused (refusal.Interface name))
after_end (Err (fault.Cyclic side latches)) = Ok (finding.Cyclic side latches)
after_end (Err (fault.TooLarge side)) = Ok (finding.Refused (refusal.TooLarge side))
after_end (Err fault.NoMemory) = Err stop.NoMemory

-- the work on three files ends with a finding that is right, or by a read that failed, or at want of memory
abbrev pub AfterFound : Held → (List ℕ → ℕ) → (List ℕ → ℕ) → AfterJob → Result Finding Stop → Type 0
AfterFound held before now job r = EndsBy (IsAfterFound job.cycles job.conflicts (held job.left) (held job.right) (held job.stimulus)) (ReadFailed held before now (replay_paths job.left job.right job.stimulus)) r

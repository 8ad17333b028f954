-- How a search ends.
use Rattle.std.specs.Prelude.{◌≡◌, ◌⊎◌, ℕ, List, Option, Some, Result, Ok, Err, IfSome}
use Rattle.circuit_theory.specs.Interface.{first_mismatch}
use Rattle.flat_net.specs.View.{NetView, ports_of}
use Rattle.sec_setup.specs.Matching.{InterfacesMatch}
use Rattle.job_base.specs.sec_files.Loading.{Loads, LoadFails}
use Rattle.job_base.specs.declared.sec_files.loader.LoadError.{LoadError}
use Rattle.job_base.specs.Ends.{EndsBy}
use Rattle.job_base.specs.declared.finding.File.TheVariants as file
use Rattle.job_base.specs.declared.finding.Refusal.TheVariants as refusal
use Rattle.job_base.specs.declared.finding.Finding.{Finding}
use Rattle.job_base.specs.declared.finding.Finding.TheVariants as finding
use Rattle.job_base.specs.declared.finding.Stop.{Stop}
use Rattle.job_base.specs.declared.finding.Stop.TheVariants as stop
use Rattle.job_base.specs.sec_files.job_files.Ends.{load_end}
use Rattle.job_base.specs.sec_files.job_files.Reading.{Held, ReadFailed}
use Rattle.cycle_search.specs.declared.found.SearchError.{SearchError}
use Rattle.cycle_search.specs.declared.found.SearchError.TheVariants as refused
use Rattle.cycle_search.specs.Outputs.{IsOneTooLarge}
use Rattle.sec_jobs.specs.job_induct.induct_meaning.Found.{induct_paths}
use Rattle.sec_jobs.specs.job_search.search_meaning.Judged.{IsJudged}
use Rattle.sec_jobs.specs.job_search.search_meaning.Found.{IsSearchFound}
use Rattle.sec_jobs.specs.declared.job_search.judging.Judged.{Judged}

-- the judgement of both nets, or the first refusal: the interface; A's size in cycle 0, B's
abbrev pub IsJudgedBy : NetView → NetView → ℕ → ℕ → Result Judged SearchError → Type 0
IsJudgedBy a b cycles conflicts (Ok j) = IsJudged a b cycles conflicts j.judgement j.proofs j.text
IsJudgedBy a b cycles conflicts (Err (refused.Interface name)) = first_mismatch (ports_of a) (ports_of b) ≡ Some name
IsJudgedBy a b cycles conflicts (Err (refused.TooLarge side)) = InterfacesMatch a b × IsOneTooLarge a b 0 side
IsJudgedBy a b cycles conflicts (Err refused.NoMemory) = Unit {0}

-- what is found by it
abbrev pub judged_end : Result Judged SearchError → Result Finding Stop
judged_end (Ok j) = Ok (finding.Judged j.judgement j.proofs j.text)
judged_end (Err (refused.Interface name)) = Ok (finding.Refused (refusal.Interface name))
judged_end (Err (refused.TooLarge side)) = Ok (finding.Refused (refusal.TooLarge side))
judged_end (Err refused.NoMemory) = Err stop.NoMemory

-- the work on two files ends with a finding that is right, or by a read that failed, or at want of memory
abbrev pub SearchFound : Held → (List ℕ → ℕ) → (List ℕ → ℕ) → ℕ → ℕ → List ℕ → List ℕ → Result Finding Stop → Type 0
SearchFound held before now cycles conflicts left right r = EndsBy (IsSearchFound cycles conflicts (held left) (held right)) (ReadFailed held before now (induct_paths left right)) r

-- How the work on B's file ends beside A's net: B isn't loaded, by what is held of it and whether a read of it failed; or both are judged.
abbrev pub EndsBeside : Option (List ℕ) → Type 0 → NetView → ℕ → ℕ → Result Finding Stop → Type 0
EndsBeside text rose a cycles conflicts r =
    ((error : LoadError) × LoadFails text rose error × (r ≡ load_end file.B error))
    ⊎ ((b : NetView) × (judged : Result Judged SearchError) × IfSome text (λ y. Loads y b) × IsJudgedBy a b cycles conflicts judged × (r ≡ judged_end judged))

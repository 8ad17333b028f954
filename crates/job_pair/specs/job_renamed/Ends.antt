-- How the comparison under the names of a third file ends.
use Rattle.std.specs.Prelude.{◌≡◌, ◌⊎◌, ℕ, List, Option, Result, Ok, Err, IfSome}
use Rattle.base_shelves.specs.Outside.{Rose}
use Rattle.base_shelves.specs.declared.whole_file.FetchError.{FetchError}
use Rattle.base_shelves.specs.declared.whole_file.FetchError.TheVariants as fetch_error
use Rattle.sec_base.specs.declared.settings.Settings.{Settings}
use Rattle.flat_net.specs.View.{NetView}
use Rattle.obligations.specs.declared.outcome.verdict.Outcome.{Outcome}
use Rattle.event_setup.specs.event_meaning.event_meaning_under.CompareError.{CompareError}
use Rattle.job_base.specs.Ends.{EndsBy}
use Rattle.job_base.specs.declared.finding.File.TheVariants as file
use Rattle.job_base.specs.declared.finding.PairsFault.TheVariants as pairs_fault
use Rattle.job_base.specs.declared.finding.Refusal.TheVariants as refusal
use Rattle.job_base.specs.declared.finding.Finding.{Finding}
use Rattle.job_base.specs.declared.finding.Finding.TheVariants as finding
use Rattle.job_base.specs.declared.finding.Stop.{Stop}
use Rattle.job_base.specs.declared.finding.Stop.TheVariants as stop
use Rattle.job_base.specs.declared.sec_files.loader.LoadError.{LoadError}
use Rattle.job_base.specs.sec_files.Loading.{IsTooLong, Loads, LoadFails}
use Rattle.job_base.specs.sec_files.job_files.Ends.{load_end}
use Rattle.job_base.specs.sec_files.job_files.Reading.{Held, ReadFailed}
use Rattle.job_check.specs.check_meaning.check_found.Ends.{compare_end}
use Rattle.job_pair.specs.Found.{check_of}
use Rattle.job_pair.specs.declared.job_renamed.renamed_net.PairsStop.{PairsStop}
use Rattle.job_pair.specs.declared.job_renamed.renamed_net.PairsStop.TheVariants as pairs_stop
use Rattle.job_pair.specs.job_renamed.Found.{IsAnsweredUnder, IsRenamedFound, renamed_paths}
use Rattle.job_pair.specs.job_renamed.Texts.{PairsFail}

-- where the text gives the latches no names
abbrev pub pairs_end : PairsStop → Result Finding Stop
pairs_end (pairs_stop.Line line kind) = Ok (finding.Refused (refusal.Pairs (pairs_fault.Line line kind)))
pairs_end pairs_stop.NoMemory = Err stop.NoMemory

-- where the text isn't fetched
abbrev pub fetch_end : FetchError → Result Finding Stop
fetch_end fetch_error.Failed = Err stop.ReadFault
fetch_end fetch_error.TooLong = Ok (finding.Refused (refusal.Pairs pairs_fault.TooLong))
fetch_end fetch_error.NoMemory = Err stop.NoMemory

-- What is true where the text of a path isn't fetched.
abbrev pub FetchFails : Option (List ℕ) → Type 0 → FetchError → Type 0
FetchFails held rose fetch_error.Failed = rose
FetchFails held rose fetch_error.TooLong = IfSome held IsTooLong
FetchFails held rose fetch_error.NoMemory = Unit {0}

-- How the work on both nets and a text ends: the text gives the latches no names, or both are compared.
abbrev pub RenamedEnds : List ℕ → Settings → NetView → NetView → Result Finding Stop → Type 0
RenamedEnds text settings a b r =
    ((error : PairsStop) × PairsFail text a b error × (r ≡ pairs_end error))
    ⊎ ((compared : Result Outcome CompareError) × IsAnsweredUnder settings text a b compared × (r ≡ compare_end settings compared))

-- How the work beside both nets ends: the text isn't fetched, by what is held of it and whether a read of it failed; or it goes on with it.
abbrev pub EndsWithText : Option (List ℕ) → Type 0 → NetView → NetView → Settings → Result Finding Stop → Type 0
EndsWithText held rose a b settings r =
    ((error : FetchError) × FetchFails held rose error × (r ≡ fetch_end error))
    ⊎ ((text : List ℕ) × IfSome held (λ z. text ≡ z) × RenamedEnds text settings a b r)

-- How the work beside A's net ends: B isn't loaded, or the work goes on with both nets.
abbrev pub EndsBeside : Held → (List ℕ → ℕ) → (List ℕ → ℕ) → NetView → List ℕ → List ℕ → Settings → Result Finding Stop → Type 0
EndsBeside held before now a right pairs settings r =
    ((error : LoadError) × LoadFails (held right) (Rose (before right) (now right)) error × (r ≡ load_end file.B error))
    ⊎ ((b : NetView) × IfSome (held right) (λ y. Loads y b) × EndsWithText (held pairs) (Rose (before pairs) (now pairs)) a b settings r)

-- the work on three files ends with a finding that is right, or by a read that failed, or at want of memory
abbrev pub RenamedFound : Held → (List ℕ → ℕ) → (List ℕ → ℕ) → Settings → List ℕ → List ℕ → List ℕ → Result Finding Stop → Type 0
RenamedFound held before now settings left right pairs r = EndsBy (IsRenamedFound held (check_of settings left right) pairs) (ReadFailed held before now (renamed_paths left right pairs)) r

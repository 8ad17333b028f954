-- How the work of a comparison ends.
use Rattle.std.specs.Prelude.{◌≡◌, ◌⊎◌, ℕ, List, Option, Some, None, Result, Ok, Err, IfSome}
use Rattle.base_shelves.specs.Outside.{Rose}
use Rattle.sec_base.specs.declared.settings.Settings.{Settings}
use Rattle.flat_net.specs.View.{NetView}
use Rattle.obligations.specs.declared.outcome.verdict.Outcome.{Outcome}
use Rattle.job_base.specs.Ends.{EndsBy}
use Rattle.job_base.specs.declared.finding.File.TheVariants as file
use Rattle.job_base.specs.declared.finding.Refusal.TheVariants as refusal
use Rattle.job_base.specs.declared.finding.Finding.{Finding}
use Rattle.job_base.specs.declared.finding.Finding.TheVariants as finding
use Rattle.job_base.specs.declared.finding.Stop.{Stop}
use Rattle.job_base.specs.declared.finding.Stop.TheVariants as stop
use Rattle.event_setup.specs.event_meaning.event_meaning_under.CompareError.{CompareError}
use Rattle.event_setup.specs.event_meaning.event_meaning_under.CompareError.TheVariants as compare_error
use Rattle.event_setup.specs.event_meaning.event_names.event_fits.Compared.{ComparedIn}
use Rattle.event_setup.specs.event_meaning.event_meaning_under.Answered.{ComparedUnderIn}
use Rattle.job_base.specs.sec_files.Loading.{Loads, LoadFails}
use Rattle.job_base.specs.declared.sec_files.loader.LoadError.{LoadError}
use Rattle.job_base.specs.sec_files.job_files.Ends.{load_end}
use Rattle.job_base.specs.sec_files.job_files.Reading.{Held, ReadFailed}
use Rattle.job_check.specs.check_meaning.check_found.Check.{Check, check_paths}
use Rattle.job_check.specs.check_meaning.check_found.Found.{IsFoundOf}

-- what is found by a comparison
abbrev pub compare_end : Settings → Result Outcome CompareError → Result Finding Stop
compare_end settings (Ok outcome) = Ok (finding.Checked outcome settings)
compare_end settings (Err (compare_error.Interface name)) = Ok (finding.Refused (refusal.Interface name))
compare_end settings (Err (compare_error.Cyclic side names)) = Ok (finding.Cyclic side names)
compare_end settings (Err (compare_error.Unpaired side names)) = Ok (finding.Unpaired side names)
compare_end settings (Err (compare_error.TooLarge side)) = Ok (finding.Refused (refusal.TooLarge side))
compare_end settings (Err compare_error.TooManyEvents) = Ok (finding.Refused refusal.TooManyEvents)
compare_end settings (Err (compare_error.Assume fault)) = Ok (finding.Refused (refusal.Assume fault))
compare_end settings (Err (compare_error.Vacuous by)) = Ok (finding.Refused refusal.Vacuous)
compare_end settings (Err compare_error.NoMemory) = Err stop.NoMemory

-- the work on the files that are compared ends with a finding that is right, or by a read that failed, or at want of memory
abbrev pub FoundOf : Held → (List ℕ → ℕ) → (List ℕ → ℕ) → Check → Result Finding Stop → Type 0
FoundOf held before now check r = EndsBy (IsFoundOf held check) (ReadFailed held before now (check_paths check)) r

-- How the work beside both nets ends. Without an assumption both are compared. Else its file isn't loaded, by what is held of it and whether a
-- read of it failed; or both are compared under it.
abbrev pub EndsBoth : Held → (List ℕ → ℕ) → (List ℕ → ℕ) → NetView → NetView → Settings → Option (List ℕ) → Result Finding Stop → Type 0
EndsBoth held before now a b settings None r = (compared : Result Outcome CompareError) × ComparedIn settings.mode a b settings compared × (r ≡ compare_end settings compared)
EndsBoth held before now a b settings (Some path) r =
    ((error : LoadError) × LoadFails (held path) (Rose (before path) (now path)) error × (r ≡ load_end file.C error))
    ⊎ ((c : NetView) × (compared : Result Outcome CompareError) × IfSome (held path) (λ z. Loads z c) × ComparedUnderIn settings.mode a b c settings compared × (r ≡ compare_end settings compared))

-- How the work beside A's net ends: B's file isn't loaded, or the work goes on with both nets.
abbrev pub EndsBeside : Held → (List ℕ → ℕ) → (List ℕ → ℕ) → NetView → List ℕ → Settings → Option (List ℕ) → Result Finding Stop → Type 0
EndsBeside held before now a right settings assumed r =
    ((error : LoadError) × LoadFails (held right) (Rose (before right) (now right)) error × (r ≡ load_end file.B error))
    ⊎ ((b : NetView) × IfSome (held right) (λ y. Loads y b) × EndsBoth held before now a b settings assumed r)

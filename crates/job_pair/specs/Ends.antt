-- How the comparison of the outputs of one name ends.
use Rattle.std.specs.Prelude.{◌≡◌, ◌⊎◌, ℕ, List, Option, Result, Ok, Err, IfSome}
use Rattle.sec_base.specs.declared.settings.Settings.{Settings}
use Rattle.flat_net.specs.View.{NetView}
use Rattle.obligations.specs.declared.outcome.verdict.Outcome.{Outcome}
use Rattle.event_setup.specs.event_meaning.event_meaning_under.CompareError.{CompareError}
use Rattle.job_base.specs.Ends.{EndsBy}
use Rattle.job_base.specs.declared.finding.File.TheVariants as file
use Rattle.job_base.specs.declared.finding.Refusal.TheVariants as refusal
use Rattle.job_base.specs.declared.finding.Finding.{Finding}
use Rattle.job_base.specs.declared.finding.Finding.TheVariants as finding
use Rattle.job_base.specs.declared.finding.Stop.{Stop}
use Rattle.job_base.specs.declared.finding.Stop.TheVariants as stop
use Rattle.job_base.specs.declared.sec_files.loader.LoadError.{LoadError}
use Rattle.job_base.specs.sec_files.Loading.{Loads, LoadFails}
use Rattle.job_base.specs.sec_files.job_files.Ends.{load_end}
use Rattle.job_base.specs.sec_files.job_files.Reading.{Held, ReadFailed}
use Rattle.job_check.specs.check_meaning.check_found.Check.{check_paths}
use Rattle.job_check.specs.check_meaning.check_found.Ends.{compare_end}
use Rattle.job_pair.specs.Found.{check_of, IsAnsweredAlone, IsPairFound, LackPair}

-- the name is refused, or memory was wanted
abbrev pub IsMissing : List ℕ → Result Finding Stop → Type 0
IsMissing pair r = (r ≡ Ok (finding.Refused (refusal.Pair pair))) ⊎ (r ≡ Err stop.NoMemory)

-- How the work on both nets ends: one of them has no output of the name; or they are compared; or memory was wanted.
abbrev pub PairEnds : List ℕ → Settings → NetView → NetView → Result Finding Stop → Type 0
PairEnds pair settings a b r =
    (LackPair pair a b × (r ≡ Ok (finding.Refused (refusal.Pair pair))))
    ⊎ (((compared : Result Outcome CompareError) × IsAnsweredAlone pair settings a b compared × (r ≡ compare_end settings compared)) ⊎ (r ≡ Err stop.NoMemory))

-- How the work on B's file ends beside A's net: B isn't loaded, by what is held of it and whether a read of it failed; or it goes on with both nets.
abbrev pub EndsBeside : Option (List ℕ) → Type 0 → NetView → List ℕ → Settings → Result Finding Stop → Type 0
EndsBeside text rose a pair settings r =
    ((error : LoadError) × LoadFails text rose error × (r ≡ load_end file.B error))
    ⊎ ((b : NetView) × IfSome text (λ y. Loads y b) × PairEnds pair settings a b r)

-- the work on two files ends with a finding that is right, or by a read that failed, or at want of memory
abbrev pub PairFound : Held → (List ℕ → ℕ) → (List ℕ → ℕ) → List ℕ → Settings → List ℕ → List ℕ → Result Finding Stop → Type 0
PairFound held before now pair settings left right r = EndsBy (IsPairFound held pair (check_of settings left right)) (ReadFailed held before now (check_paths (check_of settings left right))) r

-- What is true of two files where the comparison of their outputs of one name finds what it does. A text is given where it is told.
use Rattle.std.specs.Prelude.{◌≡◌, ◌⊎◌, ℕ, List, true, false, None, Result, Ok, Err}
use Rattle.sec_base.specs.declared.settings.Settings.{Settings}
use Rattle.flat_net.specs.View.{NetView}
use Rattle.net_names.specs.Alone.{IsAlone, shows_output}
use Rattle.obligations.specs.declared.outcome.verdict.Outcome.{Outcome}
use Rattle.event_setup.specs.event_meaning.event_meaning_under.CompareError.{CompareError}
use Rattle.event_setup.specs.event_meaning.event_meaning_under.CompareError.TheVariants as compare_error
use Rattle.event_setup.specs.event_meaning.event_names.event_fits.Compared.{ComparedIn}
use Rattle.job_base.specs.declared.finding.LineFault.TheVariants as line_fault
use Rattle.job_base.specs.declared.finding.Refusal.{Refusal}
use Rattle.job_base.specs.declared.finding.Refusal.TheVariants as refusal
use Rattle.job_base.specs.declared.finding.Finding.{Finding}
use Rattle.job_base.specs.declared.finding.Finding.TheVariants as finding
use Rattle.job_base.specs.sec_files.Loading.{IsTooLong, HasFault, HasDesignFault, HasRecordFault}
use Rattle.job_base.specs.sec_files.job_files.Reading.{Held}
use Rattle.job_check.specs.check_meaning.check_found.Check.{Check}
use Rattle.job_base.specs.sec_files.job_files.Texts.{OfNets}
use Rattle.job_check.specs.check_meaning.check_found.Found.{OfFile}

-- the comparison of two files
abbrev pub check_of : Settings → List ℕ → List ℕ → Check
check_of settings left right = record { left = left; right = right; settings = settings; assumed = None }

-- Both nets show outputs of this name, and the comparison of both with these outputs alone answers so.
pub record IsAnsweredAlone (pair : List ℕ) (settings : Settings) (a b : NetView) (r : Result Outcome CompareError) : Type 0 where
  pub left_shows : shows_output a pair ≡ true
  pub right_shows : shows_output b pair ≡ true
  pub left : NetView
  pub right : NetView
  pub left_alone : IsAlone pair a left
  pub right_alone : IsAlone pair b right
  pub compared : ComparedIn settings.mode left right settings r

-- one of both nets shows no output of this name
abbrev pub LackPair : List ℕ → NetView → NetView → Type 0
LackPair pair a b = (shows_output a pair ≡ false) ⊎ (shows_output b pair ≡ false)

-- the comparison of the nets that the texts load as, each with its outputs of this name alone, answers so
abbrev pub IsAnsweredBy : Held → List ℕ → Check → Result Outcome CompareError → Type 0
IsAnsweredBy held pair check r = OfNets (held check.left) (held check.right) (λ a b. IsAnsweredAlone pair check.settings a b r)

-- why a comparison is refused; the first cause in the order of the work
abbrev pub IsPairRefusal : Held → List ℕ → Check → Refusal → Type 0
IsPairRefusal held pair check (refusal.TooLong f) = OfFile held check f IsTooLong
IsPairRefusal held pair check (refusal.Text f line (line_fault.Circuit kind)) = OfFile held check f (λ x. HasFault x line kind)
IsPairRefusal held pair check (refusal.Design f fault) = OfFile held check f (λ x. HasDesignFault x fault)
IsPairRefusal held pair check (refusal.Record f place kind) = OfFile held check f (λ x. HasRecordFault x place kind)
IsPairRefusal held pair check (refusal.Pair name) = (name ≡ pair) × OfNets (held check.left) (held check.right) (LackPair pair)
IsPairRefusal held pair check (refusal.Interface name) = IsAnsweredBy held pair check (Err (compare_error.Interface name))
IsPairRefusal held pair check (refusal.TooLarge side) = IsAnsweredBy held pair check (Err (compare_error.TooLarge side))
IsPairRefusal held pair check refusal.TooManyEvents = IsAnsweredBy held pair check (Err compare_error.TooManyEvents)
IsPairRefusal held pair check other = ⊥

-- what is found of two files
abbrev pub IsPairFound : Held → List ℕ → Check → Finding → Type 0
IsPairFound held pair check (finding.Refused r) = IsPairRefusal held pair check r
IsPairFound held pair check (finding.Cyclic side names) = IsAnsweredBy held pair check (Err (compare_error.Cyclic side names))
IsPairFound held pair check (finding.Unpaired side names) = IsAnsweredBy held pair check (Err (compare_error.Unpaired side names))
IsPairFound held pair check (finding.Checked o settings) = (settings ≡ check.settings) × IsAnsweredBy held pair check (Ok o)
IsPairFound held pair check other = ⊥

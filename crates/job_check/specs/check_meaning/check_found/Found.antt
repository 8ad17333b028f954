-- What is true of the files of a comparison where it finds what it does. A text is given where it is told, and each that is told counts,
-- also where another isn't.
use Rattle.std.specs.Prelude.{◌≡◌, ℕ, List, Option, Some, None, Result, Ok, Err, IfSome}
use Rattle.pair_decide.specs.declared.query.SameBy.{SameBy}
use Rattle.obligations.specs.declared.outcome.verdict.Outcome.{Outcome}
use Rattle.job_base.specs.declared.finding.File.{File}
use Rattle.job_base.specs.declared.finding.File.TheVariants as file
use Rattle.job_base.specs.declared.finding.LineFault.TheVariants as line_fault
use Rattle.job_base.specs.declared.finding.Refusal.{Refusal}
use Rattle.job_base.specs.declared.finding.Refusal.TheVariants as refusal
use Rattle.job_base.specs.declared.finding.Finding.{Finding}
use Rattle.job_base.specs.declared.finding.Finding.TheVariants as finding
use Rattle.event_setup.specs.event_meaning.event_meaning_under.CompareError.{CompareError}
use Rattle.event_setup.specs.event_meaning.event_meaning_under.CompareError.TheVariants as compare_error
use Rattle.event_setup.specs.event_meaning.event_names.event_fits.Compared.{ComparedIn}
use Rattle.event_setup.specs.event_meaning.event_meaning_under.Answered.{ComparedUnderIn}
use Rattle.job_base.specs.sec_files.Loading.{IsTooLong, HasFault, HasDesignFault, HasRecordFault}
use Rattle.job_base.specs.sec_files.job_files.Reading.{Held, IsLoaded}
use Rattle.job_check.specs.check_meaning.check_found.Check.{Check}
use Rattle.job_base.specs.sec_files.job_files.Texts.{OfTexts, OfThreeTexts, OfNets, OfThreeNets}

-- what is said of two texts without an assumption, and of three with one
abbrev pub OfGiven : Held → Check → Option (List ℕ) → (List ℕ → List ℕ → Type 0) → (List ℕ → List ℕ → List ℕ → Type 0) → Type 0
OfGiven held check None P Q = OfTexts (held check.left) (held check.right) P
OfGiven held check (Some path) P Q = OfThreeTexts (held check.left) (held check.right) (held path) Q

-- what is said of the assumption's text, which is looked at only where both circuits load
abbrev pub OfAssumed : Held → Check → Option (List ℕ) → (List ℕ → Type 0) → Type 0
OfAssumed held check None P = ⊥
OfAssumed held check (Some path) P = IsLoaded (held check.left) × IsLoaded (held check.right) × IfSome (held path) P

-- What is said of the text of a file; B is looked at only where A loads. There is no stimulus.
abbrev pub OfFile : Held → Check → File → (List ℕ → Type 0) → Type 0
OfFile held check file.A P = IfSome (held check.left) P
OfFile held check file.B P = IsLoaded (held check.left) × IfSome (held check.right) P
OfFile held check file.C P = OfAssumed held check check.assumed P
OfFile held check file.S P = ⊥

-- the comparison of two nets answers so
abbrev pub IsAnsweredByTwo : Held → Check → Result Outcome CompareError → Type 0
IsAnsweredByTwo held check r = OfNets (held check.left) (held check.right) (λ a b. ComparedIn check.settings.mode a b check.settings r)

-- that of three
abbrev pub IsAnsweredByThree : Held → Check → List ℕ → Result Outcome CompareError → Type 0
IsAnsweredByThree held check path r = OfThreeNets (held check.left) (held check.right) (held path) (λ a b c. ComparedUnderIn check.settings.mode a b c check.settings r)

-- the comparison of the nets that the texts load as answers so, without an assumption and with one
abbrev pub IsAnsweredGiven : Held → Check → Option (List ℕ) → Result Outcome CompareError → Type 0
IsAnsweredGiven held check None r = IsAnsweredByTwo held check r
IsAnsweredGiven held check (Some path) r = IsAnsweredByThree held check path r

-- it answers so, and there is an assumption
abbrev pub IsAnsweredAssuming : Held → Check → Option (List ℕ) → Result Outcome CompareError → Type 0
IsAnsweredAssuming held check None r = ⊥
IsAnsweredAssuming held check (Some path) r = IsAnsweredByThree held check path r

-- the comparison that is asked for answers so
abbrev pub IsAnsweredBy : Held → Check → Result Outcome CompareError → Type 0
IsAnsweredBy held check r = IsAnsweredGiven held check check.assumed r

-- it answers so under an assumption
abbrev pub IsAnsweredUnder : Held → Check → Result Outcome CompareError → Type 0
IsAnsweredUnder held check r = IsAnsweredAssuming held check check.assumed r

-- why a comparison is refused; the first cause in the order of the work
abbrev pub IsRefusal : Held → Check → Refusal → Type 0
IsRefusal held check (refusal.TooLong f) = OfFile held check f IsTooLong
IsRefusal held check (refusal.Text f line (line_fault.Circuit kind)) = OfFile held check f (λ x. HasFault x line kind)
IsRefusal held check (refusal.Text f line line_fault.BadHeader) = ⊥
IsRefusal held check (refusal.Text f line line_fault.BadRow) = ⊥
IsRefusal held check (refusal.Text f line (line_fault.Clauses kind)) = ⊥
IsRefusal held check (refusal.Design f fault) = OfFile held check f (λ x. HasDesignFault x fault)
IsRefusal held check (refusal.Record f place kind) = OfFile held check f (λ x. HasRecordFault x place kind)
IsRefusal held check (refusal.Interface name) = IsAnsweredBy held check (Err (compare_error.Interface name))
IsRefusal held check (refusal.TooLarge side) = IsAnsweredBy held check (Err (compare_error.TooLarge side))
IsRefusal held check refusal.TooManyEvents = IsAnsweredBy held check (Err compare_error.TooManyEvents)
IsRefusal held check (refusal.Assume fault) = IsAnsweredUnder held check (Err (compare_error.Assume fault))
IsRefusal held check refusal.Vacuous = (by : SameBy) × IsAnsweredUnder held check (Err (compare_error.Vacuous by))
IsRefusal held check (refusal.Misfit m) = ⊥
IsRefusal held check (refusal.Pair name) = ⊥
IsRefusal held check (refusal.Pairs fault) = ⊥

-- what is true of the files where this is found of them
abbrev pub IsFoundOf : Held → Check → Finding → Type 0
IsFoundOf held check finding.Words = ⊥
IsFoundOf held check (finding.Refused r) = IsRefusal held check r
IsFoundOf held check (finding.Cyclic side names) = IsAnsweredBy held check (Err (compare_error.Cyclic side names))
IsFoundOf held check (finding.Unpaired side names) = IsAnsweredBy held check (Err (compare_error.Unpaired side names))
IsFoundOf held check (finding.Checked o settings) = (settings ≡ check.settings) × IsAnsweredBy held check (Ok o)
IsFoundOf held check (finding.Done report) = ⊥
IsFoundOf held check (finding.Generated o report) = ⊥
IsFoundOf held check (finding.Replayed differences) = ⊥
IsFoundOf held check (finding.Unrefuted u) = ⊥
IsFoundOf held check (finding.Judged j kept text) = ⊥
IsFoundOf held check (finding.Undecided side name proof) = ⊥

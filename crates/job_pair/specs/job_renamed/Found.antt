-- What is true of three files where the comparison of two, with the latches of the second under the names that the third gives them, finds what it
-- does. A text is given where it is told.
use Rattle.std.specs.Prelude.{◌≡◌, ℕ, List, [], ◌∷◌, Option, Result, Ok, Err, IfSome}
use Rattle.sec_base.specs.declared.settings.Settings.{Settings}
use Rattle.flat_net.specs.View.{NetView}
use Rattle.net_names.specs.Renamed.{IsRenamed}
use Rattle.net_names.specs.declared.latch_pairs.LatchPair.{LatchPair}
use Rattle.obligations.specs.declared.outcome.verdict.Outcome.{Outcome}
use Rattle.event_setup.specs.event_meaning.event_meaning_under.CompareError.{CompareError}
use Rattle.event_setup.specs.event_meaning.event_meaning_under.CompareError.TheVariants as compare_error
use Rattle.event_setup.specs.event_meaning.event_names.event_fits.Compared.{ComparedIn}
use Rattle.job_base.specs.declared.finding.LineFault.TheVariants as line_fault
use Rattle.job_base.specs.declared.finding.PairsFault.TheVariants as pairs_fault
use Rattle.job_base.specs.declared.finding.Refusal.{Refusal}
use Rattle.job_base.specs.declared.finding.Refusal.TheVariants as refusal
use Rattle.job_base.specs.declared.finding.Finding.{Finding}
use Rattle.job_base.specs.declared.finding.Finding.TheVariants as finding
use Rattle.job_base.specs.sec_files.Loading.{Loads, IsTooLong, HasFault, HasDesignFault, HasRecordFault}
use Rattle.job_base.specs.sec_files.job_files.Reading.{Held, IsLoaded}
use Rattle.job_check.specs.check_meaning.check_found.Check.{Check}
use Rattle.job_check.specs.check_meaning.check_found.Found.{OfFile}
use Rattle.job_pair.specs.Found.{check_of}
use Rattle.job_pair.specs.job_renamed.Texts.{HasFaultyPair, IsRenamedBy, PairsLatches}

-- the paths, in the order in which they are read
abbrev pub renamed_paths : List ℕ → List ℕ → List ℕ → List (List ℕ)
renamed_paths left right pairs = left ∷ right ∷ pairs ∷ []

-- what is said of the third text and of the nets that both others load as
pub record OfThird (left right pairs : Option (List ℕ)) (P : List ℕ → NetView → NetView → Type 0) : Type 0 where
  pub a : NetView
  pub b : NetView
  pub left_loads : IfSome left (λ x. Loads x a)
  pub right_loads : IfSome right (λ y. Loads y b)
  pub said : IfSome pairs (λ z. P z a b)

-- The comparison of A with B, whose latches have the names that the text gives them, answers so.
abbrev pub IsAnsweredUnder : Settings → List ℕ → NetView → NetView → Result Outcome CompareError → Type 0
IsAnsweredUnder settings text a b r = (right : NetView) × IsRenamedBy text a b right × ComparedIn settings.mode a right settings r

abbrev pub IsAnsweredBy : Held → Check → List ℕ → Result Outcome CompareError → Type 0
IsAnsweredBy held check pairs r = OfThird (held check.left) (held check.right) (held pairs) (λ z a b. IsAnsweredUnder check.settings z a b r)

-- why a comparison is refused; the first cause in the order of the work
abbrev pub IsRenamedRefusal : Held → Check → List ℕ → Refusal → Type 0
IsRenamedRefusal held check pairs (refusal.TooLong f) = OfFile held check f IsTooLong
IsRenamedRefusal held check pairs (refusal.Text f line (line_fault.Circuit kind)) = OfFile held check f (λ x. HasFault x line kind)
IsRenamedRefusal held check pairs (refusal.Design f fault) = OfFile held check f (λ x. HasDesignFault x fault)
IsRenamedRefusal held check pairs (refusal.Record f place kind) = OfFile held check f (λ x. HasRecordFault x place kind)
IsRenamedRefusal held check pairs (refusal.Pairs pairs_fault.TooLong) = IsLoaded (held check.left) × IsLoaded (held check.right) × IfSome (held pairs) IsTooLong
IsRenamedRefusal held check pairs (refusal.Pairs (pairs_fault.Line line kind)) = OfThird (held check.left) (held check.right) (held pairs) (λ z a b. HasFaultyPair z a b line kind)
IsRenamedRefusal held check pairs (refusal.Interface name) = IsAnsweredBy held check pairs (Err (compare_error.Interface name))
IsRenamedRefusal held check pairs (refusal.TooLarge side) = IsAnsweredBy held check pairs (Err (compare_error.TooLarge side))
IsRenamedRefusal held check pairs refusal.TooManyEvents = IsAnsweredBy held check pairs (Err compare_error.TooManyEvents)
IsRenamedRefusal held check pairs other = ⊥

-- what is found of three files
abbrev pub IsRenamedFound : Held → Check → List ℕ → Finding → Type 0
IsRenamedFound held check pairs (finding.Refused r) = IsRenamedRefusal held check pairs r
IsRenamedFound held check pairs (finding.Cyclic side names) = IsAnsweredBy held check pairs (Err (compare_error.Cyclic side names))
IsRenamedFound held check pairs (finding.Unpaired side names) = IsAnsweredBy held check pairs (Err (compare_error.Unpaired side names))
IsRenamedFound held check pairs (finding.Checked o settings) = (settings ≡ check.settings) × IsAnsweredBy held check pairs (Ok o)
IsRenamedFound held check pairs other = ⊥

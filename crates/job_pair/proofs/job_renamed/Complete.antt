-- Where two circuits can be compared under the names of a third file, what is found has the status of a verdict.
use Rattle.std.specs.Prelude.{Err, IfSome, IsSomeAnd}
use Rattle.std.proofs.Common.{◌≡◌, ℕ, List, Some, arith}
use Rattle.sec_base.specs.declared.settings.Settings.{Settings}
use Rattle.flat_net.specs.View.{NetView}
use Rattle.event_setup.specs.event_meaning.event_meaning_under.CompareError.{CompareError}
use Rattle.event_setup.specs.event_meaning.event_meaning_under.CompareError.TheVariants as compare_error
use Rattle.job_base.specs.Written.{status_of}
use Rattle.job_base.specs.declared.finding.File.TheVariants as file
use Rattle.job_base.specs.declared.finding.LineFault.TheVariants as line_fault
use Rattle.job_base.specs.declared.finding.PairsFault.TheVariants as pairs_fault
use Rattle.job_base.specs.declared.finding.Refusal.{Refusal}
use Rattle.job_base.specs.declared.finding.Refusal.TheVariants as refusal
use Rattle.job_base.specs.declared.finding.Finding.{Finding}
use Rattle.job_base.specs.declared.finding.Finding.TheVariants as finding
use Rattle.job_base.specs.sec_files.Loading.{IsTooLong, Loads}
use Rattle.job_base.specs.sec_files.job_files.Reading.{Held}
use Rattle.job_base.proofs.sec_files.job_files.Accepted.{not_long, not_faulty, not_unsound, not_misread}
use Rattle.job_base.proofs.sec_files.job_files.Reading.{if_told, some_and}
use Rattle.job_check.specs.check_meaning.Answer.{IsAnswer}
use Rattle.job_check.specs.check_meaning.check_found.Check.{Check}
use Rattle.job_pair.specs.Found.{check_of}
use Rattle.job_pair.proofs.Complete.{is_answer}
use Rattle.job_pair.specs.job_renamed.Answer.{AreRenamedComparable, IsRenamedComplete}
use Rattle.job_pair.specs.job_renamed.Found.{IsAnsweredBy, IsAnsweredUnder, IsRenamedFound, IsRenamedRefusal}
use Rattle.job_pair.specs.job_renamed.Texts.{HasFaultyPair}

module _ (held : Held) (settings : Settings) (left right pairs : List ℕ) (x y z : List ℕ) (x_is : held left ≡ Some x) (y_is : held right ≡ Some y) (z_is : held pairs ≡ Some z) (can : AreRenamedComparable x y z settings) where
  abbrev check : Check
  check = check_of settings left right

  -- no refusal of the comparison comes but want of memory
  never : (e : CompareError) → (e ≡ compare_error.NoMemory → ⊥) → IsAnsweredBy held check pairs (Err e) → ⊥
  never e other n =
      let said = if_told (held pairs) (λ t. IsAnsweredUnder settings t n.a n.b (Err e)) z z_is n.said in
      other (can.unrefused n.a n.b said.0 (if_told (held left) (λ t. Loads t n.a) x x_is n.left_loads) (if_told (held right) (λ t. Loads t n.b) y y_is n.right_loads) said.1 e said.2)

  no_refusal : (r : Refusal) → IsRenamedRefusal held check pairs r → ⊥
  no_refusal (refusal.TooLong file.A) h = not_long (held left) x x_is can.left h
  no_refusal (refusal.TooLong file.B) h = not_long (held right) y y_is can.right h.1
  no_refusal (refusal.TooLong file.C) h = h
  no_refusal (refusal.TooLong file.S) h = h
  no_refusal (refusal.Text file.A line (line_fault.Circuit kind)) h = not_faulty (held left) x x_is can.left line kind h
  no_refusal (refusal.Text file.B line (line_fault.Circuit kind)) h = not_faulty (held right) y y_is can.right line kind h.1
  no_refusal (refusal.Text file.C line (line_fault.Circuit kind)) h = h
  no_refusal (refusal.Text file.S line (line_fault.Circuit kind)) h = h
  no_refusal (refusal.Text f line line_fault.BadHeader) h = h
  no_refusal (refusal.Text f line line_fault.BadRow) h = h
  no_refusal (refusal.Text f line (line_fault.Clauses kind)) h = h
  no_refusal (refusal.Design file.A fault) h = not_unsound (held left) x x_is can.left fault h
  no_refusal (refusal.Design file.B fault) h = not_unsound (held right) y y_is can.right fault h.1
  no_refusal (refusal.Design file.C fault) h = h
  no_refusal (refusal.Design file.S fault) h = h
  no_refusal (refusal.Record file.A place kind) h = not_misread (held left) x x_is can.left place kind h
  no_refusal (refusal.Record file.B place kind) h = not_misread (held right) y y_is can.right place kind h.1
  no_refusal (refusal.Record file.C place kind) h = h
  no_refusal (refusal.Record file.S place kind) h = h
  no_refusal (refusal.Interface name) h = never (compare_error.Interface name) (λ e. cc) h
  no_refusal (refusal.TooLarge side) h = never (compare_error.TooLarge side) (λ e. cc) h
  no_refusal (refusal.Misfit m) h = h
  no_refusal refusal.TooManyEvents h = never compare_error.TooManyEvents (λ e. cc) h
  no_refusal (refusal.Assume fault) h = h
  no_refusal refusal.Vacuous h = h
  no_refusal (refusal.Pair name) h = h
  no_refusal (refusal.Pairs pairs_fault.TooLong) h = let long : IsTooLong z = if_told (held pairs) IsTooLong z z_is h.2 in omega (arith, can.short, long)
  no_refusal (refusal.Pairs (pairs_fault.Line line kind)) h =
      can.faultless h.a h.b (if_told (held left) (λ t. Loads t h.a) x x_is h.left_loads) (if_told (held right) (λ t. Loads t h.b) y y_is h.right_loads) line kind
      (if_told (held pairs) (λ t. HasFaultyPair t h.a h.b line kind) z z_is h.said)

  has_verdict : (f : Finding) → IsRenamedFound held check pairs f → IsAnswer (status_of f)
  has_verdict finding.Words h = absurd h
  has_verdict (finding.Refused r) h = absurd (no_refusal r h)
  has_verdict (finding.Cyclic side names) h = absurd (never (compare_error.Cyclic side names) (λ e. cc) h)
  has_verdict (finding.Unpaired side names) h = absurd (never (compare_error.Unpaired side names) (λ e. cc) h)
  has_verdict (finding.Checked o settings) h = is_answer o.verdict
  has_verdict (finding.Done report) h = absurd h
  has_verdict (finding.Generated o report) h = absurd h
  has_verdict (finding.Replayed differences) h = absurd h
  has_verdict (finding.Undecided side latch proof) h = absurd h
  has_verdict (finding.Unrefuted u) h = absurd h
  has_verdict (finding.Judged j kept text) h = absurd h

-- what is found is complete
pub renamed_complete : (held : Held) (settings : Settings) (left right pairs : List ℕ) (f : Finding) → IsRenamedFound held (check_of settings left right) pairs f → IsRenamedComplete held (check_of settings left right) pairs (status_of f)
renamed_complete held settings left right pairs f h can =
    let x = some_and (held left) (λ x. IsSomeAnd (held right) (λ y. IsSomeAnd (held pairs) (λ z. AreRenamedComparable x y z settings))) can in
    let y = some_and (held right) (λ y. IsSomeAnd (held pairs) (λ z. AreRenamedComparable x.0 y z settings)) x.2 in
    let z = some_and (held pairs) (λ z. AreRenamedComparable x.0 y.0 z settings) y.2 in
    has_verdict held settings left right pairs x.0 y.0 z.0 x.1 y.1 z.1 z.2 f h

-- Where the outputs of one name can be compared, what is found has the status of a verdict.
use Rattle.std.specs.Prelude.{Err, IsSomeAnd}
use Rattle.std.proofs.Common.{◌≡◌, ◌∙◌, ℕ, List, sym, inl, inr, Some}
use Rattle.sec_base.specs.declared.settings.Settings.{Settings}
use Rattle.flat_net.specs.View.{NetView}
use Rattle.obligations.specs.declared.outcome.verdict.Verdict.{Verdict}
use Rattle.obligations.specs.declared.outcome.verdict.Verdict.TheVariants as verdict
use Rattle.event_setup.specs.event_meaning.event_meaning_under.CompareError.{CompareError}
use Rattle.event_setup.specs.event_meaning.event_meaning_under.CompareError.TheVariants as compare_error
use Rattle.job_base.specs.Written.{status_of, verdict_status}
use Rattle.job_base.specs.declared.finding.File.TheVariants as file
use Rattle.job_base.specs.declared.finding.LineFault.TheVariants as line_fault
use Rattle.job_base.specs.declared.finding.Refusal.{Refusal}
use Rattle.job_base.specs.declared.finding.Refusal.TheVariants as refusal
use Rattle.job_base.specs.declared.finding.Finding.{Finding}
use Rattle.job_base.specs.declared.finding.Finding.TheVariants as finding
use Rattle.job_base.specs.sec_files.Loading.{Loads}
use Rattle.job_base.specs.sec_files.job_files.Reading.{Held}
use Rattle.job_base.proofs.sec_files.job_files.Accepted.{not_long, not_faulty, not_unsound, not_misread}
use Rattle.job_base.proofs.sec_files.job_files.Reading.{if_told, some_and}
use Rattle.job_check.specs.check_meaning.Answer.{IsAnswer}
use Rattle.job_check.specs.check_meaning.check_found.Check.{Check}
use Rattle.job_pair.specs.Found.{check_of, IsAnsweredBy, IsPairFound, IsPairRefusal, LackPair}
use Rattle.job_pair.specs.Answer.{ArePairComparable, IsPairComplete}

pub is_answer : (v : Verdict) → IsAnswer (verdict_status v)
is_answer verdict.Equal = tt
is_answer (verdict.Different w) = tt
is_answer (verdict.DifferentFrom w) = tt
is_answer (verdict.NotShown reason) = tt
is_answer (verdict.Limit at) = tt

module _ (held : Held) (pair : List ℕ) (settings : Settings) (left right : List ℕ) (x y : List ℕ) (x_is : held left ≡ Some x) (y_is : held right ≡ Some y) (can : ArePairComparable x y pair settings) where
  abbrev check : Check
  check = check_of settings left right

  -- no refusal of the comparison comes but want of memory
  never : (e : CompareError) → (e ≡ compare_error.NoMemory → ⊥) → IsAnsweredBy held pair check (Err e) → ⊥
  never e other n =
      other (can.unrefused n.a n.b n.said.left n.said.right (if_told (held left) (λ t. Loads t n.a) x x_is n.left_loads) (if_told (held right) (λ t. Loads t n.b) y y_is n.right_loads) n.said.left_alone n.said.right_alone e n.said.compared)

  not_lacking : (a b : NetView) → Loads x a → Loads y b → LackPair pair a b → ⊥
  not_lacking a b l r (inl h) = let q = sym h ∙ (can.shown a b l r).0 in absurd (cc)
  not_lacking a b l r (inr h) = let q = sym h ∙ (can.shown a b l r).1 in absurd (cc)

  no_refusal : (r : Refusal) → IsPairRefusal held pair check r → ⊥
  no_refusal (refusal.TooLong file.A) h = not_long (held left) x x_is can.left h
  no_refusal (refusal.TooLong file.B) h = not_long (held right) y y_is can.right h.1
  no_refusal (refusal.TooLong file.C) h = h
  no_refusal (refusal.TooLong file.S) h = h
  no_refusal (refusal.Text file.A line (line_fault.Circuit kind)) h = not_faulty (held left) x x_is can.left line kind h
  no_refusal (refusal.Text file.B line (line_fault.Circuit kind)) h = not_faulty (held right) y y_is can.right line kind h.1
  no_refusal (refusal.Text file.C line (line_fault.Circuit kind)) h = h
  no_refusal (refusal.Text file.S line (line_fault.Circuit kind)) h = h
  no_refusal (refusal.Text f line line_fault.BadHeader) h = h
  no_refusal (refusal.Text f line line_fault.BadRow) h = h
  no_refusal (refusal.Text f line (line_fault.Clauses kind)) h = h
  no_refusal (refusal.Design file.A fault) h = not_unsound (held left) x x_is can.left fault h
  no_refusal (refusal.Design file.B fault) h = not_unsound (held right) y y_is can.right fault h.1
  no_refusal (refusal.Design file.C fault) h = h
  no_refusal (refusal.Design file.S fault) h = h
  no_refusal (refusal.Record file.A place kind) h = not_misread (held left) x x_is can.left place kind h
  no_refusal (refusal.Record file.B place kind) h = not_misread (held right) y y_is can.right place kind h.1
  no_refusal (refusal.Record file.C place kind) h = h
  no_refusal (refusal.Record file.S place kind) h = h
  no_refusal (refusal.Interface name) h = never (compare_error.Interface name) (λ e. cc) h
  no_refusal (refusal.TooLarge side) h = never (compare_error.TooLarge side) (λ e. cc) h
  no_refusal (refusal.Misfit m) h = h
  no_refusal refusal.TooManyEvents h = never compare_error.TooManyEvents (λ e. cc) h
  no_refusal (refusal.Assume fault) h = h
  no_refusal refusal.Vacuous h = h
  no_refusal (refusal.Pairs fault) h = h
  no_refusal (refusal.Pair name) h =
      let n = h.1 in
      not_lacking n.a n.b (if_told (held left) (λ t. Loads t n.a) x x_is n.left_loads) (if_told (held right) (λ t. Loads t n.b) y y_is n.right_loads) n.said

  has_verdict : (f : Finding) → IsPairFound held pair check f → IsAnswer (status_of f)
  has_verdict finding.Words h = absurd h
  has_verdict (finding.Refused r) h = no_refusal r h
  has_verdict (finding.Cyclic side names) h = never (compare_error.Cyclic side names) (λ e. cc) h
  has_verdict (finding.Unpaired side names) h = never (compare_error.Unpaired side names) (λ e. cc) h
  has_verdict (finding.Checked o settings) h = is_answer o.verdict
  has_verdict (finding.Done report) h = absurd h
  has_verdict (finding.Generated o report) h = absurd h
  has_verdict (finding.Replayed differences) h = absurd h
  has_verdict (finding.Undecided side latch proof) h = absurd h
  has_verdict (finding.Unrefuted u) h = absurd h
  has_verdict (finding.Judged j kept text) h = absurd h

-- what is found is complete
pub pair_complete : (held : Held) (pair : List ℕ) (settings : Settings) (left right : List ℕ) (f : Finding) → IsPairFound held pair (check_of settings left right) f → IsPairComplete held pair (check_of settings left right) (status_of f)
pair_complete held pair settings left right f h can =
    let x = some_and (held left) (λ x. IsSomeAnd (held right) (λ y. ArePairComparable x y pair settings)) can in
    let y = some_and (held right) (λ y. ArePairComparable x.0 y pair settings) x.2 in
    has_verdict held pair settings left right x.0 y.0 x.1 y.1 y.2 f h

-- Where two circuits can be compared by a search under an assumption, they are.
use Rattle.std.specs.Prelude.{IfSome, IsSomeAnd}
use Rattle.std.proofs.Common.{◌≡◌, ℕ, List, Option, Some, Err}
use Rattle.flat_net.specs.View.{NetView}
use Rattle.pair_decide.specs.declared.query.Proof.{Proof}
use Rattle.job_base.specs.sec_files.Loading.{IsAccepted, Loads, IsTooLong, HasFault, HasDesignFault, HasRecordFault}
use Rattle.job_base.specs.declared.finding.File.TheVariants as file
use Rattle.job_base.specs.declared.finding.LineFault.TheVariants as line_fault
use Rattle.job_base.specs.declared.finding.Judgement.{Judgement}
use Rattle.job_base.specs.declared.finding.Judgement.TheVariants as judgement
use Rattle.job_base.specs.declared.finding.Refusal.{Refusal}
use Rattle.job_base.specs.declared.finding.Refusal.TheVariants as refusal
use Rattle.job_base.specs.declared.finding.Finding.{Finding}
use Rattle.job_base.specs.declared.finding.Finding.TheVariants as finding
use Rattle.job_base.specs.Written.{status_of, judgement_status}
use Rattle.job_base.proofs.sec_files.job_files.Accepted.{is_short, has_no_fault, is_sound, has_good_records}
use Rattle.job_base.proofs.sec_files.job_files.Reading.{some_and, if_told}
use Rattle.cycle_under.specs.declared.found.UnderError.{UnderError}
use Rattle.cycle_under.specs.declared.found.UnderError.TheVariants as under
use Rattle.job_under.specs.Judged.{IsJudged}
use Rattle.job_under.specs.Found.{IsUnreadRefusal, IsRefusedBy, IsRefusal, IsFoundBy, SearchRefuses, IsUnderFound}
use Rattle.job_under.specs.Answer.{CanBeJudgedBy, CanJudgeBy, IsUnderAnswer, IsUnderComplete}

module _ (left right assumed : Option (List ℕ)) (x y z : List ℕ) (is : left ≡ Some x) (also : right ≡ Some y) (third : assumed ≡ Some z) (left_fits : IsAccepted x) (right_fits : IsAccepted y) (assumed_fits : IsAccepted z) where
  of_left : (P : List ℕ → Type 0) → IfSome left P → P x
  of_left P h = if_told left P x is h

  of_right : (P : List ℕ → Type 0) → IfSome right P → P y
  of_right P h = if_told right P y also h

  of_assumed : (P : List ℕ → Type 0) → IfSome assumed P → P z
  of_assumed P h = if_told assumed P z third h

  -- texts that are accepted are loaded
  pub not_unread : (r : Refusal) → IsUnreadRefusal left right assumed r → ⊥
  not_unread (refusal.TooLong file.A) h = is_short x left_fits (of_left IsTooLong h)
  not_unread (refusal.TooLong file.B) h = is_short y right_fits (of_right IsTooLong h.1)
  not_unread (refusal.TooLong file.C) h = is_short z assumed_fits (of_assumed IsTooLong h.2)
  not_unread (refusal.TooLong file.S) h = h
  not_unread (refusal.Text file.A line (line_fault.Circuit kind)) h = has_no_fault x left_fits line kind (of_left (λ t. HasFault t line kind) h)
  not_unread (refusal.Text file.B line (line_fault.Circuit kind)) h = has_no_fault y right_fits line kind (of_right (λ t. HasFault t line kind) h.1)
  not_unread (refusal.Text file.C line (line_fault.Circuit kind)) h = has_no_fault z assumed_fits line kind (of_assumed (λ t. HasFault t line kind) h.2)
  not_unread (refusal.Text file.S line (line_fault.Circuit kind)) h = h
  not_unread (refusal.Text f line line_fault.BadHeader) h = h
  not_unread (refusal.Text f line line_fault.BadRow) h = h
  not_unread (refusal.Text f line (line_fault.Clauses kind)) h = h
  not_unread (refusal.Design file.A fault) h = is_sound x left_fits fault (of_left (λ t. HasDesignFault t fault) h)
  not_unread (refusal.Design file.B fault) h = is_sound y right_fits fault (of_right (λ t. HasDesignFault t fault) h.1)
  not_unread (refusal.Design file.C fault) h = is_sound z assumed_fits fault (of_assumed (λ t. HasDesignFault t fault) h.2)
  not_unread (refusal.Design file.S fault) h = h
  not_unread (refusal.Record file.A place kind) h = has_good_records x left_fits place kind (of_left (λ t. HasRecordFault t place kind) h)
  not_unread (refusal.Record file.B place kind) h = has_good_records y right_fits place kind (of_right (λ t. HasRecordFault t place kind) h.1)
  not_unread (refusal.Record file.C place kind) h = has_good_records z assumed_fits place kind (of_assumed (λ t. HasRecordFault t place kind) h.2)
  not_unread (refusal.Record file.S place kind) h = h
  not_unread (refusal.Interface name) h = h
  not_unread (refusal.TooLarge side) h = h
  not_unread (refusal.Assume fault) h = h
  not_unread refusal.Vacuous h = h
  not_unread (refusal.Misfit m) h = h
  not_unread refusal.TooManyEvents h = h
  not_unread (refusal.Pair name) h = h
  not_unread (refusal.Pairs fault) h = h

module _ (Refuses : NetView → NetView → NetView → UnderError → Type 0) (Judges : NetView → NetView → NetView → Judgement → List Proof → List ℕ → Type 0) (left right assumed : Option (List ℕ)) (x y z : List ℕ) (is : left ≡ Some x) (also : right ≡ Some y) (third : assumed ≡ Some z) (can : CanBeJudgedBy Refuses x y z) where
  not_refused : (e : UnderError) → (e ≡ under.NoMemory → ⊥) → IsRefusedBy Refuses left right assumed e → ⊥
  not_refused e told h =
      can.stands h.a h.b h.c (if_told left (λ t. Loads t h.a) x is h.left_loads) (if_told right (λ t. Loads t h.b) y also h.right_loads) (if_told assumed (λ t. Loads t h.c) z third h.assumed_loads) e told h.said

  read : (r : Refusal) → IsUnreadRefusal left right assumed r → ⊥
  read = not_unread left right assumed x y z is also third can.left can.right can.assumed

  -- nothing is refused
  stands : (r : Refusal) → IsRefusal Refuses left right assumed r → ⊥
  stands (refusal.TooLong f) h = read (refusal.TooLong f) h
  stands (refusal.Text f line kind) h = read (refusal.Text f line kind) h
  stands (refusal.Design f fault) h = read (refusal.Design f fault) h
  stands (refusal.Record f place kind) h = read (refusal.Record f place kind) h
  stands (refusal.Interface name) h = not_refused (under.Interface name) (λ e. cc) h
  stands (refusal.TooLarge side) h = not_refused (under.TooLarge side) (λ e. cc) h
  stands (refusal.Assume fault) h = not_refused (under.Assume fault) (λ e. cc) h
  stands refusal.Vacuous h = not_refused (under.Vacuous h.0) (λ e. cc) h.1
  stands (refusal.Misfit m) h = h
  stands refusal.TooManyEvents h = h
  stands (refusal.Pair name) h = h
  stands (refusal.Pairs fault) h = h

  judged : (j : Judgement) → IsUnderAnswer (judgement_status j)
  judged judgement.Equal = tt
  judged judgement.NotShown = tt
  judged judgement.Different = tt
  judged judgement.Limit = tt

  answered : (f : Finding) → IsFoundBy Refuses Judges left right assumed f → IsUnderAnswer (status_of f)
  answered finding.Words h = absurd h
  answered (finding.Refused r) h = absurd (stands r h)
  answered (finding.Cyclic side names) h = absurd h
  answered (finding.Unpaired side names) h = absurd h
  answered (finding.Checked o s) h = absurd h
  answered (finding.Done text) h = absurd h
  answered (finding.Generated o report) h = absurd h
  answered (finding.Replayed differences) h = absurd h
  answered (finding.Undecided side name proof) h = absurd h
  answered (finding.Unrefuted u) h = absurd h
  answered (finding.Judged j proofs text) h = judged j

-- what is found has the status of a verdict
pub found_complete : (Refuses : NetView → NetView → NetView → UnderError → Type 0) (Judges : NetView → NetView → NetView → Judgement → List Proof → List ℕ → Type 0) (left right assumed : Option (List ℕ)) (f : Finding) → IsFoundBy Refuses Judges left right assumed f →
    CanJudgeBy Refuses left right assumed → IsUnderAnswer (status_of f)
found_complete Refuses Judges left right assumed f found can =
    let l = some_and left (λ x. IsSomeAnd right (λ y. IsSomeAnd assumed (λ z. CanBeJudgedBy Refuses x y z))) can in
    let r = some_and right (λ y. IsSomeAnd assumed (λ z. CanBeJudgedBy Refuses l.0 y z)) l.2 in
    let s = some_and assumed (λ z. CanBeJudgedBy Refuses l.0 r.0 z) r.2 in
    answered Refuses Judges left right assumed l.0 r.0 s.0 l.1 r.1 s.1 s.2 f found

pub under_complete : (cycles conflicts : ℕ) (left right assumed : Option (List ℕ)) (f : Finding) → IsUnderFound cycles conflicts left right assumed f → IsUnderComplete cycles conflicts left right assumed (status_of f)
under_complete cycles conflicts left right assumed f found = found_complete (SearchRefuses cycles conflicts) (λ a b c j proofs text. IsJudged a b c cycles conflicts j proofs text) left right assumed f found

-- Where two circuits can be compared by blocks, they are.
use Rattle.std.specs.Prelude.{IfSome, IsSomeAnd}
use Rattle.std.proofs.Common.{◌≡◌, ℕ, List, sym, subst, ◌∙◌, arith, Option, Some}
use Rattle.std.proofs.lemmas.Option.{none-some}
use Rattle.circuit_theory.specs.declared.Side.TheVariants.{A, B}
use Rattle.job_base.specs.sec_files.Loading.{Loads, IsTooLong, HasFault, HasDesignFault, HasRecordFault}
use Rattle.job_base.specs.declared.finding.File.TheVariants as file
use Rattle.job_base.specs.declared.finding.LineFault.TheVariants as line_fault
use Rattle.job_base.specs.declared.finding.Judgement.{Judgement}
use Rattle.job_base.specs.declared.finding.Refusal.{Refusal}
use Rattle.job_base.specs.declared.finding.Refusal.TheVariants as refusal
use Rattle.job_base.specs.declared.finding.Finding.{Finding}
use Rattle.job_base.specs.declared.finding.Finding.TheVariants as finding
use Rattle.job_base.specs.Written.{status_of, judgement_status}
use Rattle.job_base.proofs.sec_files.job_files.Accepted.{is_short, has_no_fault, is_sound, has_good_records}
use Rattle.job_base.proofs.sec_files.job_files.Reading.{some_and, if_told}
use Rattle.induct.specs.declared.induction.InductVerdict.{InductVerdict}
use Rattle.induct.specs.declared.induction.InductVerdict.TheVariants as verdict
use Rattle.sec_jobs.specs.job_induct.induct_meaning.Judged.{judgement_of}
use Rattle.sec_jobs.specs.job_induct.induct_meaning.Found.{IsInductRefusal, IsInductFound}
use Rattle.sec_jobs.specs.job_induct.induct_meaning.Answer.{CanBeJudged, IsInductAnswer, IsInductComplete}

pub judged : (v : InductVerdict) → IsInductAnswer (judgement_status (judgement_of v))
judged verdict.Equal = tt
judged (verdict.NotShown pair own other vars bits) = tt
judged (verdict.Limit pair) = tt
judged (verdict.SplitLimit own other proof) = tt

module _ (left right : Option (List ℕ)) (x y : List ℕ) (is : left ≡ Some x) (also : right ≡ Some y) (can : CanBeJudged x y) where
  of_left : (P : List ℕ → Type 0) → IfSome left P → P x
  of_left P h = if_told left P x is h

  of_right : (P : List ℕ → Type 0) → IfSome right P → P y
  of_right P h = if_told right P y also h

  -- nothing is refused
  stands : (r : Refusal) → IsInductRefusal left right r → ⊥
  stands (refusal.TooLong file.A) h = is_short x can.left (of_left IsTooLong h)
  stands (refusal.TooLong file.B) h = is_short y can.right (of_right IsTooLong h.1)
  stands (refusal.TooLong file.C) h = h
  stands (refusal.TooLong file.S) h = h
  stands (refusal.Text file.A line (line_fault.Circuit kind)) h = has_no_fault x can.left line kind (of_left (λ t. HasFault t line kind) h)
  stands (refusal.Text file.B line (line_fault.Circuit kind)) h = has_no_fault y can.right line kind (of_right (λ t. HasFault t line kind) h.1)
  stands (refusal.Text file.C line (line_fault.Circuit kind)) h = h
  stands (refusal.Text file.S line (line_fault.Circuit kind)) h = h
  stands (refusal.Text f line line_fault.BadHeader) h = h
  stands (refusal.Text f line line_fault.BadRow) h = h
  stands (refusal.Text f line (line_fault.Clauses kind)) h = h
  stands (refusal.Design file.A fault) h = is_sound x can.left fault (of_left (λ t. HasDesignFault t fault) h)
  stands (refusal.Design file.B fault) h = is_sound y can.right fault (of_right (λ t. HasDesignFault t fault) h.1)
  stands (refusal.Design file.C fault) h = h
  stands (refusal.Design file.S fault) h = h
  stands (refusal.Record file.A place kind) h = has_good_records x can.left place kind (of_left (λ t. HasRecordFault t place kind) h)
  stands (refusal.Record file.B place kind) h = has_good_records y can.right place kind (of_right (λ t. HasRecordFault t place kind) h.1)
  stands (refusal.Record file.C place kind) h = h
  stands (refusal.Record file.S place kind) h = h
  stands (refusal.Interface name) h = none-some name (sym (can.match h.a h.b (of_left (λ t. Loads t h.a) h.left_loads) (of_right (λ t. Loads t h.b) h.right_loads)) ∙ h.said)
  stands (refusal.TooLarge A) h =
      let light = can.light h.a h.b (of_left (λ t. Loads t h.a) h.left_loads) (of_right (λ t. Loads t h.b) h.right_loads) in
      omega (arith, light.0, h.said.1)
  stands (refusal.TooLarge B) h =
      let light = can.light h.a h.b (of_left (λ t. Loads t h.a) h.left_loads) (of_right (λ t. Loads t h.b) h.right_loads) in
      omega (arith, light.1, h.said.1.1)
  stands (refusal.Misfit m) h = h
  stands refusal.TooManyEvents h = h
  stands (refusal.Assume fault) h = h
  stands refusal.Vacuous h = h
  stands (refusal.Pair name) h = h
  stands (refusal.Pairs fault) h = h

  answered : (conflicts : ℕ) (f : Finding) → IsInductFound conflicts left right f → IsInductAnswer (status_of f)
  answered conflicts finding.Words h = absurd h
  answered conflicts (finding.Refused r) h = absurd (stands r h)
  answered conflicts (finding.Cyclic side names) h = absurd h
  answered conflicts (finding.Unpaired side names) h = absurd h
  answered conflicts (finding.Checked o s) h = absurd h
  answered conflicts (finding.Done text) h = absurd h
  answered conflicts (finding.Generated o report) h = absurd h
  answered conflicts (finding.Replayed differences) h = absurd h
  answered conflicts (finding.Undecided side name proof) h = absurd h
  answered conflicts (finding.Unrefuted u) h = absurd h
  answered conflicts (finding.Judged j proofs text) h = subst (λ (k : Judgement). IsInductAnswer (judgement_status k)) (sym h.said.judgement_is) (judged h.said.made.verdict)

-- what is found has the status of a verdict
pub induct_complete : (conflicts : ℕ) (left right : Option (List ℕ)) (f : Finding) → IsInductFound conflicts left right f → IsInductComplete left right (status_of f)
induct_complete conflicts left right f found can =
    let l = some_and left (λ x. IsSomeAnd right (λ y. CanBeJudged x y)) can in
    let r = some_and right (λ y. CanBeJudged l.0 y) l.2 in
    answered left right l.0 r.0 l.1 r.1 r.2 conflicts f found

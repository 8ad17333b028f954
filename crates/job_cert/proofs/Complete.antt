-- Where there is a certificate, it is found.
use Rattle.std.specs.Prelude.{IfSome, IsSomeAnd}
use Rattle.std.proofs.Common.{◌≡◌, ℕ, Bool, true, false, List, [], refl, sym, ◌∙◌, inl, inr, Option, Some}
use Rattle.std.proofs.lemmas.Option.{none-some}
use Rattle.circuit_theory.specs.declared.Side.TheVariants.{A, B}
use Rattle.plain_check.proofs.under_base.compare_base.ToldCycles.{is_not_free}
use Rattle.job_base.specs.sec_files.Loading.{Loads, IsTooLong, HasFault, HasDesignFault, HasRecordFault}
use Rattle.job_base.specs.declared.finding.File.TheVariants as file
use Rattle.job_base.specs.declared.finding.LineFault.TheVariants as line_fault
use Rattle.job_base.specs.declared.finding.Refusal.{Refusal}
use Rattle.job_base.specs.declared.finding.Refusal.TheVariants as refusal
use Rattle.job_base.specs.declared.finding.Finding.{Finding}
use Rattle.job_base.specs.declared.finding.Finding.TheVariants as finding
use Rattle.job_base.specs.declared.finding.Unrefuted.{Unrefuted}
use Rattle.job_base.specs.declared.finding.Unrefuted.TheVariants as unrefuted
use Rattle.job_base.specs.declared.status.StatusName.TheVariants as status
use Rattle.job_base.specs.Written.{status_of, unrefuted_status}
use Rattle.job_base.proofs.sec_files.job_files.Accepted.{is_short, has_no_fault, is_sound, has_good_records}
use Rattle.job_base.proofs.sec_files.job_files.Reading.{some_and, if_told}
use Rattle.job_cert.specs.Made.{Request, IsMadeBy}
use Rattle.job_cert.specs.Found.{IsCertRefusal, IsCertFound}
use Rattle.job_cert.specs.Answer.{AreCertifiable, IsCertAnswer, IsCertComplete}

module _ (request : Request) (left right : Option (List ℕ)) (x y : List ℕ) (is : left ≡ Some x) (also : right ≡ Some y) (can : AreCertifiable x y request.pair) where
  of_left : (P : List ℕ → Type 0) → IfSome left P → P x
  of_left P h = if_told left P x is h

  of_right : (P : List ℕ → Type 0) → IfSome right P → P y
  of_right P h = if_told right P y also h

  -- nothing is refused
  stands : (r : Refusal) → IsCertRefusal request left right r → ⊥
  stands (refusal.TooLong file.A) h = is_short x can.left (of_left IsTooLong h)
  stands (refusal.TooLong file.B) h = is_short y can.right (of_right IsTooLong h.1)
  stands (refusal.TooLong file.C) h = h
  stands (refusal.TooLong file.S) h = h
  stands (refusal.Text file.A line (line_fault.Circuit kind)) h = has_no_fault x can.left line kind (of_left (λ t. HasFault t line kind) h)
  stands (refusal.Text file.B line (line_fault.Circuit kind)) h = has_no_fault y can.right line kind (of_right (λ t. HasFault t line kind) h.1)
  stands (refusal.Text file.C line (line_fault.Circuit kind)) h = h
  stands (refusal.Text file.S line (line_fault.Circuit kind)) h = h
  stands (refusal.Text f line line_fault.BadHeader) h = h
  stands (refusal.Text f line line_fault.BadRow) h = h
  stands (refusal.Text f line (line_fault.Clauses kind)) h = h
  stands (refusal.Design file.A fault) h = is_sound x can.left fault (of_left (λ t. HasDesignFault t fault) h)
  stands (refusal.Design file.B fault) h = is_sound y can.right fault (of_right (λ t. HasDesignFault t fault) h.1)
  stands (refusal.Design file.C fault) h = h
  stands (refusal.Design file.S fault) h = h
  stands (refusal.Record file.A place kind) h = has_good_records x can.left place kind (of_left (λ t. HasRecordFault t place kind) h)
  stands (refusal.Record file.B place kind) h = has_good_records y can.right place kind (of_right (λ t. HasRecordFault t place kind) h.1)
  stands (refusal.Record file.C place kind) h = h
  stands (refusal.Record file.S place kind) h = h
  stands (refusal.Interface name) h = none-some name (sym (can.match h.a h.b (of_left (λ t. Loads t h.a) h.left_loads) (of_right (λ t. Loads t h.b) h.right_loads)) ∙ h.said)
  stands (refusal.TooLarge side) h = can.light h.a h.b (of_left (λ t. Loads t h.a) h.left_loads) (of_right (λ t. Loads t h.b) h.right_loads) side h.said.2
  stands (refusal.Misfit m) h = h
  stands refusal.TooManyEvents h = h
  stands (refusal.Assume fault) h = h
  stands refusal.Vacuous h = h
  stands (refusal.Pair name) h =
      let output = can.named h.a h.b (of_left (λ t. Loads t h.a) h.left_loads) (of_right (λ t. Loads t h.b) h.right_loads) in
      h.said.2 output.0 output.1
  stands (refusal.Pairs fault) h = h

  answered : (f : Finding) → IsCertFound request left right f → IsCertAnswer request.refuted (status_of f)
  answered finding.Words h = absurd h
  answered (finding.Refused r) h = absurd (stands r h)
  answered (finding.Cyclic A names) h = absurd (is_not_free h.a [] names h.said.2 (can.broken h.a h.b (of_left (λ t. Loads t h.a) h.left_loads) (of_right (λ t. Loads t h.b) h.right_loads)).0)
  answered (finding.Cyclic B names) h = absurd (is_not_free h.b [] names h.said.3 (can.broken h.a h.b (of_left (λ t. Loads t h.a) h.left_loads) (of_right (λ t. Loads t h.b) h.right_loads)).1)
  answered (finding.Unpaired side names) h = absurd h
  answered (finding.Checked o s) h = absurd h
  answered (finding.Done text) h = go request.refuted
    where
      go : (t : Bool) → IsCertAnswer t status.Done
      go true = tt
      go false = inl refl
  answered (finding.Generated o report) h = absurd h
  answered (finding.Replayed differences) h = absurd h
  answered (finding.Undecided side name proof) h = absurd h
  answered (finding.Judged j kept text) h = absurd h
  answered (finding.Unrefuted u) h = go request.refuted u h.said.made
    where
      go : (t : Bool) (v : Unrefuted) → IsMadeBy t request.conflicts h.said.cnf (finding.Unrefuted v) → IsCertAnswer t (unrefuted_status v)
      go true unrefuted.Satisfiable m = tt
      go true (unrefuted.Limit limit proof) m = tt
      go false v m = absurd m

-- what is found has the status of a certificate
pub cert_complete : (request : Request) (left right : Option (List ℕ)) (f : Finding) → IsCertFound request left right f → IsCertComplete request left right (status_of f)
cert_complete request left right f found can =
    let l = some_and left (λ x. IsSomeAnd right (λ y. AreCertifiable x y request.pair)) can in
    let r = some_and right (λ y. AreCertifiable l.0 y request.pair) l.2 in
    answered request left right l.0 r.0 l.1 r.1 r.2 f found

-- so it is at want of memory
pub memory_cert : (request : Request) (left right : Option (List ℕ)) → IsCertComplete request left right status.NoMemory
memory_cert request left right can = go request.refuted
  where
    go : (t : Bool) → IsCertAnswer t status.NoMemory
    go true = tt
    go false = inr refl

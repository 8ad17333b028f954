-- A body, record by record.
use Rattle.std.proofs.Common.{◌≡◌, ℕ, suc, ◌+◌, List, [], ◌∷◌, ◌++◌, Option, Some, None, refl, sym, ◌∙◌, ap, subst, append_assoc}
use Rattle.aiger_read.specs.declared.aiger_records.header.Header.{Header}
use Rattle.aiger_read.specs.declared.aiger_records.record.Record.{Record}
use Rattle.aiger_read.specs.declared.aiger_records.error.AigerKind.{AigerKind}
use Rattle.aiger_read.specs.declared.aiger_records.error.AigerKind.TheVariants as kind
use Rattle.aiger_read.specs.aiger_records.Records.{Taken, record_at, implied, body_length}
use Rattle.aiger_read.specs.aiger_records.Faults.{fault_of}
use Rattle.aiger_read.specs.aiger_file.Reading.{Body, put_record, body_from, body_of, records_fault, first_fault_after, fault_at, at, those_there, body_with, FaultAt}
use Rattle.aiger_read.specs.aiger_file.State.{BodyTo, Refuses, refusal_at}
use Rattle.aiger_read.specs.aiger_records.Took.{Stops}
use Rattle.aiger_read.specs.declared.aiger_records.error.AigerError.{AigerError}
use Rattle.aiger_read.specs.declared.aiger_records.error.Stop.{Stop}
use Rattle.aiger_read.specs.declared.aiger_records.error.Stop.TheVariants as stop

pub body_begins : (h : Header) (n : ℕ) (text : List ℕ) (before : List Record) → n ≡ body_length h → before ≡ implied h.form h.inputs → BodyTo h (body_of h text) (body_from h n 0 text) 1 before
unfolding body_of
body_begins h n text before is none =
    let P : ℕ → Type 0 = λ i. BodyTo h (body_from h (body_length h) 0 text) (body_from h i 0 text) 1 (implied h.form h.inputs) in
    let Q : List Record → Type 0 = λ b. BodyTo h (body_from h (body_length h) 0 text) (body_from h n 0 text) 1 b in
    subst Q (sym none) (subst P (sym is) (record { fault = refl; records = refl; after = refl }))

-- where a record is there, the body has it and what comes after it
body_is : (h : Header) (n m k : ℕ) (text : List ℕ) (o : Option Taken) → n ≡ suc m → record_at h k text ≡ o → body_from h n k text ≡ body_with o (λ taken. body_from h m (k + 1) taken.after)
body_is h n m k text o is e = ap (λ i. body_from h i k text) is ∙ ap (λ (found : Option Taken). body_with found (λ taken. body_from h m (k + 1) taken.after)) e

pub body_goes_on : (h : Header) (whole : Body) (n m k : ℕ) (text : List ℕ) (taken : Taken) (before after : List Record) → n ≡ suc m → record_at h k text ≡ Some taken → fault_of h before taken.found ≡ None →
    after ≡ before ++ taken.found ∷ [] → BodyTo h whole (body_from h n k text) (k + 1) before → BodyTo h whole (body_from h m (k + 1) taken.after) (k + 1 + 1) after
body_goes_on h whole n m k text taken before after is e sound put to =
    let left = body_from h m (k + 1) taken.after in
    let P : Body → Type 0 = λ b. BodyTo h whole b (k + 1) before in
    let now : BodyTo h whole (put_record taken.found left) (k + 1) before = subst P (body_is h n m k text (Some taken) is e) to in
    let Q : List Record → Type 0 = λ b. BodyTo h whole left (k + 1 + 1) b in
    subst Q (sym put) (record {
      fault = now.fault ∙ ap (λ f. fault_at (k + 1) f (first_fault_after h (k + 1 + 1) (before ++ taken.found ∷ []) left.records)) sound;
      records = now.records ∙ sym (append_assoc before (taken.found ∷ []) (those_there left.records));
      after = now.after;
    })

-- a record that is cut off or not of its form
pub body_breaks : (h : Header) (whole : Body) (n m k : ℕ) (text : List ℕ) (before : List Record) → n ≡ suc m → record_at h k text ≡ None →
    BodyTo h whole (body_from h n k text) (k + 1) before → records_fault h whole.records ≡ Some (at (k + 1) kind.BadLine)
body_breaks h whole n m k text before is e to =
    to.fault ∙ ap (λ (b : Body). first_fault_after h (k + 1) before b.records) (body_is h n m k text None is e)

-- a faulty record
pub body_is_faulty : (h : Header) (whole : Body) (n m k : ℕ) (text : List ℕ) (taken : Taken) (before : List Record) (fault : AigerKind) → n ≡ suc m → record_at h k text ≡ Some taken → fault_of h before taken.found ≡ Some fault →
    BodyTo h whole (body_from h n k text) (k + 1) before → records_fault h whole.records ≡ Some (at (k + 1) fault)
body_is_faulty h whole n m k text taken before fault is e found to =
    let left = body_from h m (k + 1) taken.after in
    to.fault ∙ ap (λ (b : Body). first_fault_after h (k + 1) before b.records) (body_is h n m k text (Some taken) is e)
    ∙ ap (λ f. fault_at (k + 1) f (first_fault_after h (k + 1 + 1) (before ++ taken.found ∷ []) left.records)) found

-- a fault of one record ends the reading
pub refused : (fault : Option AigerKind) (whole : Option FaultAt) (place : ℕ) (s : Stop) (e : AigerError) → Stops fault s → e ≡ refusal_at place s →
    ((k : AigerKind) → fault ≡ Some k → whole ≡ Some (at place k)) → Refuses whole e
refused fault whole place s e stops is then =
    let P : AigerError → Type 0 = λ e. Refuses whole e in
    subst P (sym is) (go s stops)
  where
    go : (s : Stop) → Stops fault s → Refuses whole (refusal_at place s)
    go stop.NoMemory stops = tt
    go (stop.Fault k) stops = then k stops

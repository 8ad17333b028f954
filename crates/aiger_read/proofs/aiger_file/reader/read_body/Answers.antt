use Rattle.std.proofs.Common.{◌≡◌, ◌+◌, ◌-◌, ◌++◌, ◌∷◌, [], Some, None, sym, ◌∙◌, ap, arith}
use Rattle.aiger_read.specs.declared.aiger_records.header.Header.{Header}
use Rattle.aiger_read.specs.aiger_records.Records.{Taken, record_at, body_length}
use Rattle.aiger_read.specs.aiger_records.Faults.{fault_of}
use Rattle.aiger_read.specs.aiger_file.Reading.{body_of}
use Rattle.aiger_read.proofs.aiger_file.Bodies.{body_begins, body_goes_on, body_breaks, body_is_faulty, refused}
use Rattle.aiger_read.proofs.aiger_file.reader.read_body.Goals as goal

pub loop-k-init : goal.loop-k-init
loop-k-init c = record {
  to = body_begins c.args.header (body_length c.args.header - 0) c.args.text.now c.in_ok-defined.defined.records (omega arith) c.in_ok-defined.ensures.1;
  header = c.in_ok-defined.ensures.0;
  shorter = omega arith;
}

pub loop-k-preserved : goal.loop-k-preserved
loop-k-preserved c =
    let h = c.args.header in
    let k = c.loop-k.k in
    let taken : Taken = record { found = c.in-Some.field-0.found; after = c.in-Some.field-0.after.now } in
    let there : record_at h k c.loop-k.left.now ≡ Some taken = ap (λ i. record_at h i c.loop-k.left.now) (sym c.from.ensures) ∙ (rw c.in-Some.is at c.in_ok-found.ensures.record) in
    let sound : fault_of h c.loop-k.defined.records taken.found ≡ None = ap (λ (g : Header). fault_of g c.loop-k.defined.records taken.found) (sym c.loop-k.invariant.header) ∙ c.in_default-take.ensures.0 in
    let put : c.take.new.self.records ≡ c.loop-k.defined.records ++ taken.found ∷ [] = c.in_default-take.ensures.1.1 in
    record {
      to = body_goes_on h (body_of h c.args.text.now) (body_length h - k) (body_length h - (k + 1)) k c.loop-k.left.now taken c.loop-k.defined.records c.take.new.self.records
          (omega (arith, c.body_length-k-end.ensures.length)) there sound put c.loop-k.invariant.to;
      header = c.in_default-take.ensures.1.0 ∙ c.loop-k.invariant.header;
      shorter = omega (arith, (rw c.in-Some.is at c.in_ok-found.ensures.shorter));
    }

pub returns-in_default-clause-body : goal.returns-in_default-clause-body
returns-in_default-clause-body c =
    let h = c.args.header in
    let k = c.loop-k.k in
    let there : record_at h k c.loop-k.left.now ≡ None = ap (λ i. record_at h i c.loop-k.left.now) (sym c.from.ensures) ∙ (rw c.in_default.is at c.in_ok-found.ensures.record) in
    body_breaks h (body_of h c.args.text.now) (body_length h - k) (body_length h - (k + 1)) k c.loop-k.left.now c.loop-k.defined.records
    (omega (arith, c.body_length-k-end.ensures.length)) there c.loop-k.invariant.to

pub returns-in-Err-clause-body : goal.returns-in-Err-clause-body
returns-in-Err-clause-body c =
    let h = c.args.header in
    let k = c.loop-k.k in
    let taken : Taken = record { found = c.in-Some.field-0.found; after = c.in-Some.field-0.after.now } in
    let there : record_at h k c.loop-k.left.now ≡ Some taken = ap (λ i. record_at h i c.loop-k.left.now) (sym c.from.ensures) ∙ (rw c.in-Some.is at c.in_ok-found.ensures.record) in
    refused (fault_of c.loop-k.defined.header c.loop-k.defined.records taken.found) _ (k + 1) c.in-Err.stop c.at_place.result c.in-Err.ensures c.at_place.ensures (λ kind found.
    body_is_faulty h (body_of h c.args.text.now) (body_length h - k) (body_length h - (k + 1)) k c.loop-k.left.now taken c.loop-k.defined.records kind
    (omega (arith, c.body_length-k-end.ensures.length)) there (ap (λ (g : Header). fault_of g c.loop-k.defined.records taken.found) (sym c.loop-k.invariant.header) ∙ found) c.loop-k.invariant.to)

use Rattle.std.proofs.Common.{◌≡◌}
use Rattle.aiger_read.specs.aiger_records.Records.{inputs_to}
use Rattle.aiger_read.proofs.aiger_records.defined.Defined.put_inputs.Given as goal

abbrev pub invariant-loop-before : goal.invariant-loop-before
invariant-loop-before l = record {
  header : l.self.header ≡ l.initial.self.header;
  records : l.self.records ≡ inputs_to l.before;
}

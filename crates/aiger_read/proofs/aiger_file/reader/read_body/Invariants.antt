use Rattle.std.proofs.Common.{◌≡◌, ◌+◌, ◌-◌, ◌≤◌, length}
use Rattle.aiger_read.specs.aiger_records.Records.{body_length}
use Rattle.aiger_read.specs.aiger_file.Reading.{body_from, body_of}
use Rattle.aiger_read.specs.aiger_file.State.{BodyTo}
use Rattle.aiger_read.proofs.aiger_file.reader.read_body.Given as goal

abbrev pub invariant-loop-k : goal.invariant-loop-k
invariant-loop-k l = record {
  to : BodyTo l.header (body_of l.header l.text) (body_from l.header (body_length l.header - l.k) l.k l.left) (l.k + 1) l.defined.records;
  header : l.defined.header ≡ l.header;
  shorter : length l.left ≤ length l.text;
}

use Rattle.std.proofs.Common.{◌≡◌, map, take}
use Rattle.witness_report.specs.Text.{digit_of}
use Rattle.witness_report.proofs.rows.read_row.Given as goal

abbrev pub invariant-loop-byte : goal.invariant-loop-byte
invariant-loop-byte l = map digit_of l.bits.items ≡ take l.byte-index l.line

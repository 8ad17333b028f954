use Rattle.std.proofs.Common.{◌≡◌, drop}
use Rattle.aiger_read.specs.aiger_records.Numbers.{number_of, with_digits}
use Rattle.aiger_read.proofs.aiger_records.decimals.number_of.Given as goal

abbrev pub invariant-loop-byte : goal.invariant-loop-byte
invariant-loop-byte l = number_of l.bytes ≡ with_digits l.number (drop l.byte-index l.bytes)

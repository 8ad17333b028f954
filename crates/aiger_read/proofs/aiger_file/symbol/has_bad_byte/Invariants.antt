use Rattle.std.proofs.Common.{◌≡◌, drop}
use Rattle.std.specs.List.{list_any}
use Rattle.aiger_read.specs.aiger_file.Symbols.{is_bad_byte}
use Rattle.aiger_read.proofs.aiger_file.symbol.has_bad_byte.Given as goal

abbrev pub invariant-loop-byte : goal.invariant-loop-byte
invariant-loop-byte l = list_any is_bad_byte l.name ≡ list_any is_bad_byte (drop l.byte-index l.name)

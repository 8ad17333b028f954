use Rattle.std.proofs.Common.{◌+◌, ◌≤◌, length}
use Rattle.aiger_read.specs.aiger_file.Symbols.{symbols_of}
use Rattle.aiger_read.specs.aiger_file.State.{SymbolsTo}
use Rattle.aiger_read.proofs.aiger_file.reader.read_symbols.Given as goal

abbrev pub invariant-loop-left : goal.invariant-loop-left
invariant-loop-left l = record {
  to : SymbolsTo l.header l.place (symbols_of l.text) (symbols_of l.left) l.at l.symbols;
  fits : l.at + length l.left ≤ l.place + length l.text;
}

abbrev pub decreases-loop-left : goal.decreases-loop-left
decreases-loop-left l = length l.left

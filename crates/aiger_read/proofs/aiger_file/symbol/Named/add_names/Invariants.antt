use Rattle.std.proofs.Common.{◌≡◌, ◌++◌, ◌-◌}
use Rattle.aiger_read.specs.aiger_file.Names.{names_from, repeats}
use Rattle.aiger_read.proofs.aiger_file.symbol.Named.add_names.Given as goal

abbrev pub invariant-loop-k : goal.invariant-loop-k
invariant-loop-k l = record {
  fresh : repeats l.initial.table (names_from l.self l.letter l.count 0) ≡ repeats l.table (names_from l.self l.letter (l.count - l.k) l.k);
  all : l.initial.table ++ names_from l.self l.letter l.count 0 ≡ l.table ++ names_from l.self l.letter (l.count - l.k) l.k;
}

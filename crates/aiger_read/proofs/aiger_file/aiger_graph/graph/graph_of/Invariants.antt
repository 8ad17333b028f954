use Rattle.std.proofs.Common.{◌≡◌, ◌+◌, ◌*◌, ◌-◌, drop, length}
use Rattle.aiger_read.specs.aiger_file.aiger_graph.Literals.{graph_among}
use Rattle.aiger_read.proofs.aiger_file.aiger_graph.graph.graph_of.Given as goal

abbrev pub invariant-loop-back : goal.invariant-loop-back
invariant-loop-back l = l.graph.items ≡ graph_among l.records (drop (length l.records - l.back) l.records) (2 * l.header.greatest + 2)

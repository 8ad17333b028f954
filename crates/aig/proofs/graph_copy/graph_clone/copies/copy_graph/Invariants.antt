use Rattle.std.proofs.Common.{◌≡◌, ◌+◌, ◌-◌, ◌≤◌, length}
use Rattle.aig.specs.graph_copy.graph_clone.Twins.{AreTwins}
use Rattle.aig.proofs.graph_copy.graph_clone.copies.copy_graph.Given as goal

abbrev pub invariant-loop-n : goal.invariant-loop-n
invariant-loop-n l = record {
  each : length l.lits.items ≡ l.n;
  twins : AreTwins l.own l.aig l.lits.items;
  few : length l.aig ≤ 1 + (l.n - 1);
}

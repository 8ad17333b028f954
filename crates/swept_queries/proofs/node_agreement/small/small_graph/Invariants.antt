use Rattle.std.proofs.Common.{◌≡◌, length}
use Rattle.swept_queries.specs.node_agreement.Standing.{AreLocal}
use Rattle.swept_queries.proofs.node_agreement.small.small_graph.Given as goal

abbrev pub invariant-loop-i : goal.invariant-loop-i
invariant-loop-i l = record {
  local : AreLocal l.graph l.numbers l.small.graph l.small.lits.items;
  each : length l.small.lits.items ≡ l.i;
}

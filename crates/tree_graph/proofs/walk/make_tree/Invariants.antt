use Rattle.std.proofs.Common.{◌≤◌, length}
use Rattle.tree_graph.specs.declared.covers.TheConstants.{MOST_NODES}
use Rattle.tree_graph.specs.Walking.{AreKnown}
use Rattle.tree_graph.proofs.Waiting.{IsWaiting}
use Rattle.tree_graph.proofs.walk.make_tree.Given as goal

abbrev pub invariant-loop : goal.invariant-loop
invariant-loop l = record {
  few : length l.aig ≤ MOST_NODES;
  known : AreKnown l.side.net.now l.side.order.now l.places l.memo l.aig;
  waiting : IsWaiting l.side.net.now l.side.order.now l.places (0, l.side.root.0) l.initial.aig l.aig l.stack.items;
}

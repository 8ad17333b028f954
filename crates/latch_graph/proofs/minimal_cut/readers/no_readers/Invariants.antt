use Rattle.std.proofs.Common.{◌≡◌, ℕ, [], length, slice_get, Some}
use Rattle.latch_graph.specs.minimal_cut.graph_components.Node.{Node}
use Rattle.latch_graph.proofs.minimal_cut.readers.no_readers.Given as goal

abbrev pub invariant-loop-i : goal.invariant-loop-i
invariant-loop-i l = record {
  size : length l.readers.items ≡ l._i;
  none : (r : ℕ) (node : Node) → slice_get l.readers.items r ≡ Some node → node.reads ≡ [];
}

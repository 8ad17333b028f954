use Rattle.std.proofs.Common.{◌≡◌, ◌<◌, ℕ, length, slice_get, Some}
use Rattle.signal_graph.specs.inner_cone.flat_net.Driver.{Driver}
use Rattle.signal_graph.specs.declared.nodes.Node.{Node}
use Rattle.signal_graph.specs.Graph.{IsNodeOf}
use Rattle.signal_graph.proofs.nodes.nodes_of.Given as goal

abbrev pub invariant-loop-s : goal.invariant-loop-s
invariant-loop-s l = record {
  size : length l.nodes.items ≡ l.s;
  right : (s : ℕ) (d : Driver) → s < l.s → slice_get l.net.drivers s ≡ Some d → (node : Node) × (slice_get l.nodes.items s ≡ Some node) × IsNodeOf l.net l.skipped d node;
}

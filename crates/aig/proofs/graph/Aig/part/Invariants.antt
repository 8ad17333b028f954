use Rattle.std.proofs.Common.{◌≡◌, ℕ, ◌<◌, length, slice_get, Some}
use Rattle.aig.specs.declared.node.Node.{Node}
use Rattle.aig.specs.Cone.{IsPlacedNode}
use Rattle.aig.proofs.graph.Aig.part.Given as goal

abbrev pub invariant-loop-k : goal.invariant-loop-k
invariant-loop-k l = record {
  each : length l.part.items ≡ l.k;
  placed : (j n : ℕ) (node : Node) → j < l.k → slice_get l.cone j ≡ Some n → slice_get l.nodes n ≡ Some node → (p : Node) × (slice_get l.part.items j ≡ Some p) × IsPlacedNode l.cone node p;
}

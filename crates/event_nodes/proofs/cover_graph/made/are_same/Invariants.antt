use Rattle.std.proofs.Common.{◌≡◌, ℕ, ◌<◌, slice_index_or}
use Rattle.aig.specs.declared.node.Lit.{Lit}
use Rattle.event_nodes.proofs.cover_graph.made.are_same.Given as goal

abbrev pub invariant-loop-i : goal.invariant-loop-i
invariant-loop-i l = (k : ℕ) (d : Lit) → k < l.i → slice_index_or l.left k d ≡ slice_index_or l.right k d

use Rattle.std.proofs.Common.{◌≡◌}
use Rattle.tree_graph.specs.Numbering.{with_inputs}
use Rattle.tree_graph.proofs.starts.start.Given as goal

abbrev pub invariant-loop-number : goal.invariant-loop-number
invariant-loop-number l = l.aig ≡ with_inputs l.number

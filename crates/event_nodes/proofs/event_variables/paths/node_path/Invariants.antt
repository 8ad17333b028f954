use Rattle.std.proofs.Common.{◌≡◌, ◌++◌, ◌≤◌, length}
use Rattle.event_nodes.specs.Nodes.{path_of}
use Rattle.event_nodes.proofs.event_variables.paths.node_path.Given as goal

abbrev pub invariant-loop-at : goal.invariant-loop-at
invariant-loop-at l = record {
  climbs : l.steps.items ++ path_of l.events.children l.at ≡ path_of l.events.children l.fn.node;
  inside : l.at ≤ length l.events.children;
}

abbrev pub decreases-loop-at : goal.decreases-loop-at
decreases-loop-at l = l.at

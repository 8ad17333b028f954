use Rattle.std.proofs.Common.{◌+◌, ◌-◌, length}
use Rattle.latch_graph.specs.minimal_cut.Walk.{unseen_count}
use Rattle.latch_graph.proofs.minimal_cut.Marking.{SameOut}
use Rattle.latch_graph.proofs.minimal_cut.Walks.{AreWalks}
use Rattle.latch_graph.proofs.minimal_cut.walk.walk_both.Given as goal

abbrev pub invariant-loop-at : goal.invariant-loop-at
invariant-loop-at l = record {
  walks : AreWalks l.nodes l.readers l.marks l.root l.turn l.behind.items l.ahead.items l.at;
  same : SameOut l.initial.marks l.marks;
}

abbrev pub decreases-loop-at : goal.decreases-loop-at
decreases-loop-at l = (length l.behind.items + length l.ahead.items + unseen_count l.turn l.marks) - l.at

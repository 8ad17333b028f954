use Rattle.std.proofs.Common.{◌≡◌, ◌+◌, length}
use Rattle.latch_graph.specs.minimal_cut.Walk.{IsGoing, IsLater, unseen_count}
use Rattle.latch_graph.proofs.minimal_cut.walk.go_on.Given as goal

abbrev pub invariant-loop-k : goal.invariant-loop-k
invariant-loop-k l = record {
  going : IsGoing l.nodes l.marks l.root l.way l.turn l.met.items l.at l.k l.signal l.reads;
  later : IsLater l.way l.turn l.initial.marks l.marks;
  room : length l.met.items + unseen_count l.turn l.marks ≡ length l.initial.met.items + unseen_count l.turn l.initial.marks;
}

use Rattle.signal_graph.proofs.inner_cone.latch_cone.Walks.{AreOthersOf}
use Rattle.signal_graph.proofs.inner_cone.latch_cone.walk.others_among.Given as goal

abbrev pub invariant-loop-at : goal.invariant-loop-at
invariant-loop-at l = AreOthersOf l.net l.own.0 l.seen l.at l.others

use Rattle.signal_graph.proofs.inner_cone.Inner.{AreRankedTo}
use Rattle.signal_graph.proofs.inner_cone.numbers.are_ranked.Given as goal

abbrev pub invariant-loop-j : goal.invariant-loop-j
invariant-loop-j l = AreRankedTo l.net.gates l.numbers l.j

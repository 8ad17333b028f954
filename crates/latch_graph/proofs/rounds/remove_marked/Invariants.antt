use Rattle.latch_graph.specs.Rounds.{AreRemoved}
use Rattle.latch_graph.proofs.rounds.remove_marked.Given as goal

abbrev pub invariant-loop-j : goal.invariant-loop-j
invariant-loop-j l = AreRemoved l.latches l.removed l.j l.states

use Rattle.latch_graph.proofs.Tables.{IsGreatestBefore}
use Rattle.latch_graph.proofs.states.greatest.Given as goal

abbrev pub invariant-loop-signal : goal.invariant-loop-signal
invariant-loop-signal l = IsGreatestBefore l.states l.reads l.signal-index l.most

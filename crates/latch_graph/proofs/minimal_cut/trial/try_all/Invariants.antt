use Rattle.latch_graph.specs.minimal_cut.Trying.{AreTried}
use Rattle.latch_graph.proofs.minimal_cut.trial.try_all.Given as goal

abbrev pub invariant-loop-k : goal.invariant-loop-k
invariant-loop-k l = AreTried l.a.graph.now l.b.graph.now l.a.positions.now l.b.positions.now l.k l.left l.right l.places

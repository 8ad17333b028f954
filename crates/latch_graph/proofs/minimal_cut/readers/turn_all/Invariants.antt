use Rattle.latch_graph.specs.minimal_cut.Readers.{AreReadersUpTo}
use Rattle.latch_graph.proofs.minimal_cut.readers.turn_all.Given as goal

abbrev pub invariant-loop-s : goal.invariant-loop-s
invariant-loop-s l = AreReadersUpTo l.nodes l.s 0 l.readers

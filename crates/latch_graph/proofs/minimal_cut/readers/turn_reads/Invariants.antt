use Rattle.latch_graph.specs.minimal_cut.Readers.{AreReadersUpTo}
use Rattle.latch_graph.proofs.minimal_cut.readers.turn_reads.Given as goal

abbrev pub invariant-loop-k : goal.invariant-loop-k
invariant-loop-k l = AreReadersUpTo l.nodes l.s l.k l.readers

use Rattle.latch_graph.specs.minimal_cut.Marks.{AreFirst}
use Rattle.latch_graph.proofs.minimal_cut.marks.mark_out.Given as goal

abbrev pub invariant-loop-i : goal.invariant-loop-i
invariant-loop-i l = AreFirst l.latches l.positions l.i l.marks

use Rattle.signal_refine.specs.Frames.{AreLeaves}
use Rattle.signal_refine.proofs.leaves.leaves_of.Given as goal

abbrev pub invariant-loop-v : goal.invariant-loop-v
invariant-loop-v l = AreLeaves l.cycle l.initial.aig l.aig l.v l.leaves.items

use Rattle.signal_refine.specs.Copies.{IsCopy}
use Rattle.signal_refine.proofs.copies.copy_of.Given as goal

abbrev pub invariant-loop-n : goal.invariant-loop-n
invariant-loop-n l = IsCopy l.base l.leaves l.anchors l.initial.aig l.aig l.n l.copy

use Rattle.signal_refine.specs.Frames.{AreSignalLits}
use Rattle.signal_refine.proofs.signals.signal_literals.Given as goal

abbrev pub invariant-loop-place : goal.invariant-loop-place
invariant-loop-place l = AreSignalLits l.cycle l.initial.aig l.aig l.place l.lits.items

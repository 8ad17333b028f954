use Rattle.aig.specs.Graph.{Grows}
use Rattle.signal_refine.proofs.ahead.put_ahead.Given as goal

abbrev pub invariant-loop-n : goal.invariant-loop-n
invariant-loop-n l = Grows l.initial.aig l.aig

use Rattle.signal_refine.specs.Assuming.{ArePicked}
use Rattle.signal_refine.proofs.assumed.picked.Given as goal

abbrev pub invariant-loop-i : goal.invariant-loop-i
invariant-loop-i l = ArePicked l.leaves l.numbers l.i l.made.items

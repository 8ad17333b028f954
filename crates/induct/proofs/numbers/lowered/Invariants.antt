use Rattle.induct.proofs.Lowering.{AreLoweredTo}
use Rattle.induct.proofs.numbers.lowered.Given as goal

abbrev pub invariant-loop-k : goal.invariant-loop-k
invariant-loop-k l = AreLoweredTo l.bound l.from l.numbers l.k l.made

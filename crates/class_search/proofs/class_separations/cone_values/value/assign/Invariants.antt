use Rattle.class_search.specs.class_separations.cone_values.Bits.{HasBits}
use Rattle.class_search.proofs.class_separations.cone_values.value.assign.Given as goal

abbrev pub invariant-loop-k : goal.invariant-loop-k
invariant-loop-k l = HasBits l.vars l.bits l.k l.assignment

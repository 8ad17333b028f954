use Rattle.std.proofs.Common.{nat_eq}
use Rattle.indexmap.specs.IndexMap.{get}
use Rattle.pair_decide.specs.Reading.{HasInputBits}
use Rattle.pair_decide.proofs.bits.input_bits.Given as goal

abbrev pub invariant-loop-k : goal.invariant-loop-k
invariant-loop-k l = HasInputBits l.aig l.nodes l.values (get nat_eq l.found) l.k

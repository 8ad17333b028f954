use Rattle.std.proofs.Common.{take}
use Rattle.sec_setup.specs.ports.Pairing.{ArePairs}
use Rattle.sec_setup.proofs.ports.pairs.pairs_of.Given as goal

abbrev pub invariant-loop-k : goal.invariant-loop-k
invariant-loop-k l = ArePairs l.a l.b (take l.k l.names) (take l.k l.left) (take l.k l.right) l.pairs

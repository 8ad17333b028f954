use Rattle.std.proofs.Common.{◌≡◌, length, take}
use Rattle.aig.specs.Values.{node_bits, assigned}
use Rattle.aig.proofs.values.node_bits.Given as goal

abbrev pub invariant-loop-n : goal.invariant-loop-n
invariant-loop-n l = record { places : length l.scratch ≡ length l.nodes; done : take l.n l.scratch ≡ node_bits (take l.n l.nodes) (assigned l.assignment) }

use Rattle.job_circuit.specs.replay.cut_sides.Pairs.{PutsSome}
use Rattle.job_circuit.proofs.replay.cut_sides.pairs.put_nexts.Given as goal

abbrev pub invariant-loop-k : goal.invariant-loop-k
invariant-loop-k l = PutsSome l.names l.left l.right l.k l.initial.pairs.items l.pairs.items

use Rattle.job_circuit.proofs.replay.cut_sides.Opened.{AreBitsSoFar}
use Rattle.job_circuit.proofs.replay.cut_sides.opened_latches.bits_left.Given as goal

abbrev pub invariant-loop-latch : goal.invariant-loop-latch
invariant-loop-latch l = AreBitsSoFar l.net l.enabled l.cut l.latch-index l.bits

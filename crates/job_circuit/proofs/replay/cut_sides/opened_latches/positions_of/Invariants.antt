use Rattle.job_circuit.proofs.replay.cut_sides.Opened.{AreFirst}
use Rattle.job_circuit.proofs.replay.cut_sides.opened_latches.positions_of.Given as goal

abbrev pub invariant-loop-id : goal.invariant-loop-id
invariant-loop-id l = AreFirst l.net l.names l.id l.positions

use Rattle.std.proofs.Common.{◌≡◌, drop}
use Rattle.job_circuit.specs.replay.replay_header.Header.{first_unknown}
use Rattle.job_circuit.proofs.replay.replay_header.header.first_unknown.Given as goal

abbrev pub invariant-loop-id : goal.invariant-loop-id
invariant-loop-id l = first_unknown l.a l.b l.names ≡ first_unknown l.a l.b (drop l.id l.names)

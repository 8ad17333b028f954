use Rattle.std.proofs.Common.{◌≡◌, take}
use Rattle.std.specs.List.{filter}
use Rattle.sec_setup.specs.ports.name_tables.Names.{latch_names}
use Rattle.job_circuit.specs.replay.replay_header.Header.{is_opened}
use Rattle.job_circuit.proofs.replay.replay_header.opened_latches.opened_names.Given as goal

abbrev pub invariant-loop-latch : goal.invariant-loop-latch
invariant-loop-latch l = l.names ≡ filter (is_opened l.a l.b l.header) (take l.latch-index (latch_names l.a))

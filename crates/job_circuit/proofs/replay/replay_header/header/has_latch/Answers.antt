use Rattle.std.proofs.Common.{◌∙◌}
use Rattle.job_circuit.proofs.replay.replay_header.Names.{latch_test}
use Rattle.job_circuit.proofs.replay.replay_header.header.has_latch.Goals as goal

pub returns : goal.returns
returns c = c.is_some.ensures ∙ latch_test c.args.net.now c.args.name.now c.latch_named.result c.latch_named.ensures.here c.latch_named.ensures.absent

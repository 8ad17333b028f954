use Rattle.call_rows.proofs.circuit_samples.event_samples.NeverPair.{right_net, constant_depth}
use Rattle.call_rows.proofs.circuit_samples.event_samples.samples.constant_pair.Goals as goal

pub returns : goal.returns
returns c = record { net = right_net; depth = constant_depth }

use Rattle.circuit_laws.proofs.event_laws.SideParts.{cut_is_net_again}
use Rattle.circuit_laws.proofs.event_laws.laws.cut_is_net.Goals as goal

pub returns : goal.returns
returns c = cut_is_net_again

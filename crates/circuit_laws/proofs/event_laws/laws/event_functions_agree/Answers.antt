use Rattle.circuit_laws.proofs.event_laws.EventAgreement.{event_functions_agree_in_nets}
use Rattle.circuit_laws.proofs.event_laws.laws.event_functions_agree.Goals as goal

pub returns : goal.returns
returns c = event_functions_agree_in_nets

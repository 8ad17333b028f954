use Rattle.event_nodes.proofs.event_variables.Meaning.{signal_variables}
use Rattle.event_nodes.proofs.event_variables.laws.signal_inputs_are_variables.Goals as goal

pub returns : goal.returns
returns c = signal_variables

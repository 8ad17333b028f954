use Rattle.event_nodes.proofs.event_variables.Meaning.{enable_variables}
use Rattle.event_nodes.proofs.event_variables.laws.enable_inputs_are_variables.Goals as goal

pub returns : goal.returns
returns c = enable_variables

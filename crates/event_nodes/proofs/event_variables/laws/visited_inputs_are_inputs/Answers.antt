use Rattle.event_nodes.proofs.event_variables.Meaning.{visited_inputs}
use Rattle.event_nodes.proofs.event_variables.laws.visited_inputs_are_inputs.Goals as goal

pub returns : goal.returns
returns c = visited_inputs

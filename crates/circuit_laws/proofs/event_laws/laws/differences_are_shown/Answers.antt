use Rattle.circuit_laws.proofs.event_laws.EventVariables.{differences_are_shown_by_variables}
use Rattle.circuit_laws.proofs.event_laws.laws.differences_are_shown.Goals as goal

pub returns : goal.returns
returns c = differences_are_shown_by_variables

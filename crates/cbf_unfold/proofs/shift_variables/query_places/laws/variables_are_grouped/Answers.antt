use Rattle.cbf_unfold.proofs.shift_variables.query_places.Grouped.{variables_are_grouped}
use Rattle.cbf_unfold.proofs.shift_variables.query_places.laws.variables_are_grouped.Goals as goal

pub returns : goal.returns
returns c = variables_are_grouped

use Rattle.event_under.proofs.Leaves.{sides_variables}
use Rattle.event_under.proofs.laws.sides_have_all_variables.Goals as goal

pub returns : goal.returns
returns c = sides_variables

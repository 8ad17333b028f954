use Rattle.assume_queries.proofs.assume_functions.Assumed.{assumed_later}
use Rattle.assume_queries.proofs.assume_functions.laws.assumed_later.Goals as goal

pub returns : goal.returns
returns c = assumed_later

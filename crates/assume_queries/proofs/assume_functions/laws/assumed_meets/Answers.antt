use Rattle.assume_queries.proofs.assume_functions.Assumed.{assumed_meets}
use Rattle.assume_queries.proofs.assume_functions.laws.assumed_meets.Goals as goal

pub returns : goal.returns
returns c = assumed_meets

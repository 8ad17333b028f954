use Rattle.cycle_under.proofs.Runs.{witness_differs_under}
use Rattle.cycle_under.proofs.laws.witness_differs_under.Goals as goal

pub returns : goal.returns
returns c = witness_differs_under

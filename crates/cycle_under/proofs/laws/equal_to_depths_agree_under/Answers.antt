use Rattle.cycle_under.proofs.Runs.{equal_to_depths_agree_under}
use Rattle.cycle_under.proofs.laws.equal_to_depths_agree_under.Goals as goal

pub returns : goal.returns
returns c = equal_to_depths_agree_under

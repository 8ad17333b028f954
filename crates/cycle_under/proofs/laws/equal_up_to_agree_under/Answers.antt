use Rattle.cycle_under.proofs.Runs.{equal_up_to_agree_under}
use Rattle.cycle_under.proofs.laws.equal_up_to_agree_under.Goals as goal

pub returns : goal.returns
returns c = equal_up_to_agree_under

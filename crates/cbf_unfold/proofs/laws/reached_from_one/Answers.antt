use Rattle.aig.proofs.Supports.{reached_one}
use Rattle.cbf_unfold.proofs.laws.reached_from_one.Goals as goal

pub returns : goal.returns
returns c = reached_one

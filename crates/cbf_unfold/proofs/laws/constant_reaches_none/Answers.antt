use Rattle.aig.proofs.Supports.{constant_reaches}
use Rattle.cbf_unfold.proofs.laws.constant_reaches_none.Goals as goal

pub returns : goal.returns
returns c = constant_reaches

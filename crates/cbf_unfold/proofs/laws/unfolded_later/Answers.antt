use Rattle.cbf_unfold.proofs.Known.{unfolded_later}
use Rattle.cbf_unfold.proofs.laws.unfolded_later.Goals as goal

pub returns : goal.returns
returns c = unfolded_later

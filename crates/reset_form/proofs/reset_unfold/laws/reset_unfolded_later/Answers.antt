use Rattle.reset_form.proofs.reset_unfold.Known.{unfolded_later}
use Rattle.reset_form.proofs.reset_unfold.laws.reset_unfolded_later.Goals as goal

pub returns : goal.returns
returns c = unfolded_later

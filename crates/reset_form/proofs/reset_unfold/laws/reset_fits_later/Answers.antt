use Rattle.reset_form.proofs.reset_unfold.Known.{fits_later}
use Rattle.reset_form.proofs.reset_unfold.laws.reset_fits_later.Goals as goal

pub returns : goal.returns
returns c = fits_later

use Rattle.cbf_unfold.proofs.Known.{fits_later}
use Rattle.cbf_unfold.proofs.laws.fits_later.Goals as goal

pub returns : goal.returns
returns c = fits_later

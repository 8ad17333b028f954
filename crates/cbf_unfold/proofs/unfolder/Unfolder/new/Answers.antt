-- Nothing has been unfolded.
use Rattle.std.proofs.Common.{refl}
use Rattle.cbf_unfold.proofs.Finish.{fits_new}
use Rattle.cbf_unfold.proofs.unfolder.Unfolder.new.Goals as goal

pub returns-clause-fits : goal.returns-clause-fits
returns-clause-fits c = fits_new _ c.new-2.ensures c.new.ensures refl refl

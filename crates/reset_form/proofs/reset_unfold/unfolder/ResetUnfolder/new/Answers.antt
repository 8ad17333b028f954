-- Nothing has been unfolded.
use Rattle.std.proofs.Common.{refl}
use Rattle.reset_form.proofs.reset_unfold.Finish.{fits_new}
use Rattle.reset_form.proofs.reset_unfold.unfolder.ResetUnfolder.new.Goals as goal

pub returns-clause-fits : goal.returns-clause-fits
returns-clause-fits c = fits_new _ c.new-2.ensures c.new.ensures.items refl refl

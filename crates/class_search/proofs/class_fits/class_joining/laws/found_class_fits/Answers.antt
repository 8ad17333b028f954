use Rattle.class_search.proofs.class_fits.class_joining.Tables.{found_fits}
use Rattle.class_search.proofs.class_fits.class_joining.laws.found_class_fits.Goals as goal

pub returns : goal.returns
returns c = found_fits

use Rattle.class_search.proofs.class_fits.class_joining.Giving.{class_given}
use Rattle.class_search.proofs.class_fits.class_joining.laws.class_is_given.Goals as goal

pub returns : goal.returns
returns c = class_given

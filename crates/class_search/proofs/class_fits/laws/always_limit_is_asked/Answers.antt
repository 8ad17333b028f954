use Rattle.class_search.proofs.class_fits.Fitting.{always_limit_asked}
use Rattle.class_search.proofs.class_fits.laws.always_limit_is_asked.Goals as goal

pub returns : goal.returns
returns c = always_limit_asked

use Rattle.class_search.proofs.class_fits.Fitting.{limit_asked}
use Rattle.class_search.proofs.class_fits.laws.limit_is_asked.Goals as goal

pub returns : goal.returns
returns c = limit_asked

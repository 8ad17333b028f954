use Rattle.class_search.proofs.class_fits.Fitting.{fit_first}
use Rattle.class_search.proofs.class_fits.laws.fit_is_first.Goals as goal

pub returns : goal.returns
returns c = fit_first

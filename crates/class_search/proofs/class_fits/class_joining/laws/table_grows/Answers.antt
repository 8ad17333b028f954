use Rattle.class_search.proofs.class_fits.class_joining.Tables.{grows_on}
use Rattle.class_search.proofs.class_fits.class_joining.laws.table_grows.Goals as goal

pub returns : goal.returns
returns c = grows_on

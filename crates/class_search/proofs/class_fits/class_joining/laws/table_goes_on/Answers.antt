use Rattle.class_search.proofs.class_fits.class_joining.Tables.{goes_on}
use Rattle.class_search.proofs.class_fits.class_joining.laws.table_goes_on.Goals as goal

pub returns : goal.returns
returns c = goes_on

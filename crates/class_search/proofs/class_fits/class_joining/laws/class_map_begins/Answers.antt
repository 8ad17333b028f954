use Rattle.class_search.proofs.class_fits.class_joining.Bounds.{map_begins}
use Rattle.class_search.proofs.class_fits.class_joining.laws.class_map_begins.Goals as goal

pub returns : goal.returns
returns c = map_begins

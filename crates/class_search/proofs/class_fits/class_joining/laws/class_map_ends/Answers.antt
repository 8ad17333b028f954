use Rattle.class_search.proofs.class_fits.class_joining.Bounds.{map_ends}
use Rattle.class_search.proofs.class_fits.class_joining.laws.class_map_ends.Goals as goal

pub returns : goal.returns
returns c = map_ends

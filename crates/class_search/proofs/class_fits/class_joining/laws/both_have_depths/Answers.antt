use Rattle.class_search.proofs.class_fits.class_joining.Bounds.{depths_of_both}
use Rattle.class_search.proofs.class_fits.class_joining.laws.both_have_depths.Goals as goal

pub returns : goal.returns
returns c = depths_of_both

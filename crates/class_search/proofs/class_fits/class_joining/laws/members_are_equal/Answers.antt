use Rattle.class_search.proofs.class_fits.class_joining.Members.{members_equal}
use Rattle.class_search.proofs.class_fits.class_joining.laws.members_are_equal.Goals as goal

pub returns : goal.returns
returns c = members_equal

use Rattle.class_search.proofs.class_fits.Members.{members_grow_on}
use Rattle.class_search.proofs.class_fits.laws.members_grow.Goals as goal

pub returns : goal.returns
returns c = members_grow_on

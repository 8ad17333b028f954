use Rattle.class_search.proofs.class_fits.Members.{members_join_on}
use Rattle.class_search.proofs.class_fits.laws.members_join.Goals as goal

pub returns : goal.returns
returns c = members_join_on

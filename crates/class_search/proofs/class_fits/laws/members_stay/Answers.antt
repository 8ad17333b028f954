use Rattle.class_search.proofs.class_fits.Members.{members_stay_on}
use Rattle.class_search.proofs.class_fits.laws.members_stay.Goals as goal

pub returns : goal.returns
returns c = members_stay_on

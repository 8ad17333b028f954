use Rattle.class_search.proofs.class_fits.class_joining.Members.{member_apart}
use Rattle.class_search.proofs.class_fits.class_joining.laws.member_is_apart.Goals as goal

pub returns : goal.returns
returns c = member_apart

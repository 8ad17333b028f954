use Rattle.assume_laws.proofs.settle_laws.Never.{without_care_never_settled_under}
use Rattle.assume_laws.proofs.settle_laws.settles.without_care_never_settled_under.Goals as goal

pub returns : goal.returns
returns c = without_care_never_settled_under

use Rattle.assume_laws.proofs.settle_laws.Never.{without_care_never_settled_cut}
use Rattle.assume_laws.proofs.settle_laws.settles.without_care_never_settled_cut.Goals as goal

pub returns : goal.returns
returns c = without_care_never_settled_cut

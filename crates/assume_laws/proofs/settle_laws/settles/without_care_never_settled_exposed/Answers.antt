use Rattle.assume_laws.proofs.settle_laws.Never.{without_care_never_settled_exposed}
use Rattle.assume_laws.proofs.settle_laws.settles.without_care_never_settled_exposed.Goals as goal

pub returns : goal.returns
returns c = without_care_never_settled_exposed

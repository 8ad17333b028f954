use Rattle.assume_laws.proofs.settle_laws.Never.{without_care_never_settled}
use Rattle.assume_laws.proofs.settle_laws.settles.without_care_never_settled.Goals as goal

pub returns : goal.returns
returns c = without_care_never_settled

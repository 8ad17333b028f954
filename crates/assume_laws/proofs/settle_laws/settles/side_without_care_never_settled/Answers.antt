use Rattle.assume_laws.proofs.settle_laws.Never.{side_without_care_never_settled}
use Rattle.assume_laws.proofs.settle_laws.settles.side_without_care_never_settled.Goals as goal

pub returns : goal.returns
returns c = side_without_care_never_settled

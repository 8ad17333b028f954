use Rattle.assume_laws.proofs.settle_laws.Never.{query_without_care}
use Rattle.assume_laws.proofs.settle_laws.settles.query_without_care.Goals as goal

pub returns : goal.returns
returns c = query_without_care

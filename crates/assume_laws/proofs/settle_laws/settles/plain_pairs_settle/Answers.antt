use Rattle.assume_laws.proofs.settle_laws.Never.{plain_pairs_settle}
use Rattle.assume_laws.proofs.settle_laws.settles.plain_pairs_settle.Goals as goal

pub returns : goal.returns
returns c = plain_pairs_settle

use Rattle.plain_check.proofs.asked_under.plain_asked_under.PairsUnder.{pairs_fit_under}
use Rattle.plain_check.proofs.asked_under.plain_asked_under.laws.pairs_fit_under.Goals as goal

pub returns : goal.returns
returns c = pairs_fit_under

use Rattle.event_under.proofs.Pairs.{pairs_fit}
use Rattle.event_under.proofs.laws.pairs_fit_under.Goals as goal

pub returns : goal.returns
returns c = pairs_fit

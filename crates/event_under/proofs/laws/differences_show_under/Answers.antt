use Rattle.event_under.proofs.Pairs.{differences_show}
use Rattle.event_under.proofs.laws.differences_show_under.Goals as goal

pub returns : goal.returns
returns c = differences_show

use Rattle.plain_check.proofs.asked_under.plain_asked_under.Witnesses.{differences_show_under}
use Rattle.plain_check.proofs.asked_under.plain_asked_under.laws.differences_show_under.Goals as goal

pub returns : goal.returns
returns c = differences_show_under

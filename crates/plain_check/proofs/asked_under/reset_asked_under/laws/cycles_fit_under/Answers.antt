use Rattle.plain_check.proofs.asked_under.reset_asked_under.CyclesUnder.{cycles_fit_under}
use Rattle.plain_check.proofs.asked_under.reset_asked_under.laws.cycles_fit_under.Goals as goal

pub returns : goal.returns
returns c = cycles_fit_under

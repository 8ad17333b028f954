use Rattle.event_under.proofs.Agreeing.{cuts_agree}
use Rattle.event_under.proofs.laws.equal_cuts_agree_under.Goals as goal

pub returns : goal.returns
returns c = cuts_agree

use Rattle.event_under.proofs.Agreeing.{equal_agree}
use Rattle.event_under.proofs.laws.equal_pairs_agree_under.Goals as goal

pub returns : goal.returns
returns c = equal_agree

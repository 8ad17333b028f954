use Rattle.event_setup.proofs.event_meaning.Saying.{equal_outcomes}
use Rattle.event_setup.proofs.event_meaning.laws.equal_outcomes_agree.Goals as goal

pub returns : goal.returns
returns c = equal_outcomes

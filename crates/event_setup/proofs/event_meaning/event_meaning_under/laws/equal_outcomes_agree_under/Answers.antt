use Rattle.event_setup.proofs.event_meaning.event_meaning_under.Saying.{equal_outcomes}
use Rattle.event_setup.proofs.event_meaning.event_meaning_under.laws.equal_outcomes_agree_under.Goals as goal

pub returns : goal.returns
returns c = equal_outcomes

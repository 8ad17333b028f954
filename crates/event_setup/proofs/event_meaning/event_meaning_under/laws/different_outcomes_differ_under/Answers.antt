use Rattle.event_setup.proofs.event_meaning.event_meaning_under.Saying.{different_outcomes}
use Rattle.event_setup.proofs.event_meaning.event_meaning_under.laws.different_outcomes_differ_under.Goals as goal

pub returns : goal.returns
returns c = different_outcomes

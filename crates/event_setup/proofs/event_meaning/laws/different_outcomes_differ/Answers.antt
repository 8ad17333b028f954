use Rattle.event_setup.proofs.event_meaning.Saying.{different_outcomes}
use Rattle.event_setup.proofs.event_meaning.laws.different_outcomes_differ.Goals as goal

pub returns : goal.returns
returns c = different_outcomes

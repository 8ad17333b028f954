use Rattle.event_setup.proofs.event_meaning.Saying.{cut_outcomes}
use Rattle.event_setup.proofs.event_meaning.laws.cut_outcomes_differ.Goals as goal

pub returns : goal.returns
returns c = cut_outcomes

use Rattle.event_setup.proofs.event_meaning.event_meaning_under.Saying.{cut_outcomes}
use Rattle.event_setup.proofs.event_meaning.event_meaning_under.laws.cut_outcomes_differ_under.Goals as goal

pub returns : goal.returns
returns c = cut_outcomes

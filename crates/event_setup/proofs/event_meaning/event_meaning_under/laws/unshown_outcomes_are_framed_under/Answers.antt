use Rattle.event_setup.proofs.event_meaning.event_meaning_under.Framing.{unshown_outcomes}
use Rattle.event_setup.proofs.event_meaning.event_meaning_under.laws.unshown_outcomes_are_framed_under.Goals as goal

pub returns : goal.returns
returns c = unshown_outcomes

use Rattle.event_setup.proofs.event_meaning.Framing.{unshown_outcomes}
use Rattle.event_setup.proofs.event_meaning.laws.unshown_outcomes_are_framed.Goals as goal

pub returns : goal.returns
returns c = unshown_outcomes

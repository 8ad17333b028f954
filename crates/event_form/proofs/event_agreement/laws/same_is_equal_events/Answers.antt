use Rattle.event_form.proofs.event_agreement.PairQueries.{equal_events}
use Rattle.event_form.proofs.event_agreement.laws.same_is_equal_events.Goals as goal

pub returns : goal.returns
returns c = equal_events

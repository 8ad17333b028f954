use Rattle.event_form.proofs.event_agreement.pair_events.Within.{is_within}
use Rattle.event_form.proofs.event_agreement.pair_events.laws.counted_is_within.Goals as goal

pub returns : goal.returns
returns c = is_within

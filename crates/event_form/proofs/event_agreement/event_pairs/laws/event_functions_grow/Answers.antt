use Rattle.event_form.proofs.event_agreement.event_pairs.Growing.{functions_later}
use Rattle.event_form.proofs.event_agreement.event_pairs.laws.event_functions_grow.Goals as goal

pub returns : goal.returns
returns c = functions_later

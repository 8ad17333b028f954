use Rattle.event_form.proofs.event_agreement.PairQueries.{differences_least}
use Rattle.event_form.proofs.event_agreement.laws.difference_is_least.Goals as goal

pub returns : goal.returns
returns c = differences_least

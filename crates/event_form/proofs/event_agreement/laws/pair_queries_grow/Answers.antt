use Rattle.event_form.proofs.event_agreement.PairQueries.{queries_later}
use Rattle.event_form.proofs.event_agreement.laws.pair_queries_grow.Goals as goal

pub returns : goal.returns
returns c = queries_later

use Rattle.event_form.proofs.event_agreement.PairQueries.{queries_of_pairs}
use Rattle.event_form.proofs.event_agreement.laws.pairs_are_queries.Goals as goal

pub returns : goal.returns
returns c = queries_of_pairs

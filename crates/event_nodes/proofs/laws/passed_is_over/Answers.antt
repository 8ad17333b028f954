-- By its lemma.
use Rattle.event_nodes.proofs.Totals.{passed_over}
use Rattle.event_nodes.proofs.laws.passed_is_over.Goals as goal

pub returns : goal.returns
returns c = passed_over

-- By its lemma.
use Rattle.event_nodes.proofs.Totals.{counted_weight}
use Rattle.event_nodes.proofs.laws.counted_is_weight.Goals as goal

pub returns : goal.returns
returns c = counted_weight

use Rattle.event_form.proofs.event_agreement.event_pairs.Unions.{pair_nodes}
use Rattle.event_form.proofs.event_agreement.event_pairs.laws.pair_nodes_are_nodes.Goals as goal

pub returns : goal.returns
returns c = pair_nodes

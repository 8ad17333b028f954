use Rattle.event_form.proofs.event_agreement.event_pairs.Growing.{value_of_tree}
use Rattle.event_form.proofs.event_agreement.event_pairs.laws.value_is_tree.Goals as goal

pub returns : goal.returns
returns c = value_of_tree

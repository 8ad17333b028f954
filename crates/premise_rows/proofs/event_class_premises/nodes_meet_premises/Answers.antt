use Rattle.premise_rows.proofs.event_class_premises.OneNode.{nodes_meet_premises}
use Rattle.premise_rows.proofs.event_class_premises.nodes_meet_premises.Goals as goal

pub returns : goal.returns
returns c = nodes_meet_premises

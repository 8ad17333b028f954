use Rattle.event_classes.proofs.event_functions.class_totals.Over.{few_nodes_are_within}
use Rattle.event_classes.proofs.event_functions.class_totals.laws.few_nodes_are_within.Goals as goal

pub returns : goal.returns
returns c = few_nodes_are_within

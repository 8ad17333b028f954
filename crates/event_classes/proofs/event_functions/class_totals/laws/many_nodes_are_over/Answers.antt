use Rattle.event_classes.proofs.event_functions.class_totals.Over.{many_nodes_are_over}
use Rattle.event_classes.proofs.event_functions.class_totals.laws.many_nodes_are_over.Goals as goal

pub returns : goal.returns
returns c = many_nodes_are_over

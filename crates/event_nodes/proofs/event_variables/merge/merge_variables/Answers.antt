use Rattle.event_nodes.specs.event_variables.Variables.{variable_of}
use Rattle.event_nodes.proofs.event_variables.NodeOrder.{node_trans}
use Rattle.event_nodes.proofs.event_variables.merge.merge_variables.Goals as goal

pub merge-requires-clause-goes_on : goal.merge-requires-clause-goes_on
merge-requires-clause-goes_on c = λ u v w. node_trans (variable_of c.args.events.now u) (variable_of c.args.events.now v) (variable_of c.args.events.now w)

use Rattle.std.proofs.Common.{take}
use Rattle.event_nodes.specs.event_variables.Order.{AreKeysOf}
use Rattle.event_nodes.proofs.event_variables.ordering.keys_of.Given as goal

abbrev pub invariant-loop-variable : goal.invariant-loop-variable
invariant-loop-variable l = AreKeysOf l.events (take l.variable-index l.variables) l.keys.items

use Rattle.std.proofs.Common.{take}
use Rattle.event_under.proofs.Making.{AreMade}
use Rattle.event_under.proofs.event_shown_under.variables.node_variables.Given as goal

abbrev pub invariant-loop-i : goal.invariant-loop-i
invariant-loop-i l = AreMade l.events.children l.nodes l.places (take l.i l.vars) l.made l.numbers.items

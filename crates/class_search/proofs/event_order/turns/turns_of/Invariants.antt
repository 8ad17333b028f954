use Rattle.class_search.proofs.event_order.Sorting.{TurnsUpTo}
use Rattle.class_search.proofs.event_order.turns.turns_of.Given as goal

abbrev pub invariant-loop-number : goal.invariant-loop-number
invariant-loop-number l = TurnsUpTo l.depths l.number l.turns.items

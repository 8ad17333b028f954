use Rattle.event_classes.specs.Map.{IsMadeTo}
use Rattle.event_classes.proofs.making.join_all.Given as goal

abbrev pub invariant-loop-at : goal.invariant-loop-at
invariant-loop-at l = IsMadeTo l.initial.map l.map l.tags l.at

use Rattle.class_search.specs.class_separations.Telling.{HasKeptTo}
use Rattle.class_search.proofs.class_separations.apart.keep_apart.Given as goal

abbrev pub invariant-loop-place : goal.invariant-loop-place
invariant-loop-place l = HasKeptTo l.events l.classes l.latch l.told l.place l.initial.aparts.items l.aparts.items

use Rattle.std.proofs.Common.{◌-◌}
use Rattle.cbf_unfold.proofs.unfold_places.Walk.{Met}
use Rattle.cbf_unfold.proofs.unfold_places.reached.unmet.Given as goal

abbrev pub invariant-loop-at : goal.invariant-loop-at
invariant-loop-at l = Met l.net l.memo l.fn.start l.cap l.table l.at l.weight

abbrev pub decreases-loop-at : goal.decreases-loop-at
decreases-loop-at l = l.cap - l.at

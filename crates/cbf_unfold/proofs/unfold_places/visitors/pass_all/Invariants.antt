use Rattle.std.proofs.Common.{◌≤◌, length}
use Rattle.flat_net.specs.View.{circuit_of}
use Rattle.cbf_unfold.specs.unfold_places.Visitors.{AreMarked, ArePassed}
use Rattle.cbf_unfold.proofs.unfold_places.visitors.pass_all.Given as goal

abbrev pub invariant-loop-at : goal.invariant-loop-at
invariant-loop-at l = record {
  within : l.at ≤ length l.memo;
  marked : AreMarked (circuit_of l.net) l.last l.signals l.memo (length l.signals) l.words;
  passed : ArePassed (circuit_of l.net) l.memo l.at l.words;
}

abbrev pub decreases-loop-at : goal.decreases-loop-at
decreases-loop-at l = l.at

use Rattle.flat_net.specs.View.{circuit_of}
use Rattle.cbf_unfold.specs.unfold_places.Visitors.{AreMarked}
use Rattle.cbf_unfold.proofs.unfold_places.visitors.mark_roots.Given as goal

abbrev pub invariant-loop-k : goal.invariant-loop-k
invariant-loop-k l = AreMarked (circuit_of l.net) l.last l.signals l.memo l.k l.words

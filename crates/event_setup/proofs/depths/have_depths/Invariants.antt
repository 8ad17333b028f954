use Rattle.class_search.proofs.event_order.LatchDepths.{HaveDepths}
use Rattle.event_setup.proofs.depths.have_depths.Given as goal

abbrev pub invariant-loop-latch : goal.invariant-loop-latch
invariant-loop-latch l = HaveDepths l.net l.latch-index

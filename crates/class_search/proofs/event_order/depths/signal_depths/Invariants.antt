use Rattle.class_search.proofs.event_order.SignalDepths.{AreDepthsTo}
use Rattle.class_search.proofs.event_order.depths.signal_depths.Given as goal

abbrev pub invariant-loop-signal : goal.invariant-loop-signal
invariant-loop-signal l = AreDepthsTo l.net l.signal l.depths

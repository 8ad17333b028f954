-- One latch more has a depth.
use Rattle.std.proofs.Common.{length, ap, arith}
use Rattle.class_search.proofs.event_order.LatchDepths.{item_at, one_more, all_have}
use Rattle.event_setup.proofs.SignalDepths.{out_there}
use Rattle.event_setup.proofs.depths.have_depths.Goals as goal

pub depth_of-requires-clause-signal : goal.depth_of-requires-clause-signal
depth_of-requires-clause-signal c =
    let n = c.args.net.now in
    out_there n c.keeps.ensures.sound c.loop-latch.latch-index c.latch-item.result
    (item_at n.latches c.latches-latch-items.result.now c.loop-latch.latch-index c.latch-item.result c.latches-latch-items.ensures c.loop-latch-test.true c.latch-item.is)

pub loop-latch-preserved : goal.loop-latch-preserved
loop-latch-preserved c =
    let n = c.args.net.now in
    one_more n c.loop-latch.latch-index c.latch-item.result c.loop-latch.invariant
    (item_at n.latches c.latches-latch-items.result.now c.loop-latch.latch-index c.latch-item.result c.latches-latch-items.ensures c.loop-latch-test.true c.latch-item.is) c.depth_of.result c.depth_of.ensures

pub returns : goal.returns
returns c = all_have c.args.net.now c.loop-latch.latch-index (let e = ap length c.latches-latch-items.ensures in omega (arith, e, c.loop-latch-test.false)) c.loop-latch.invariant

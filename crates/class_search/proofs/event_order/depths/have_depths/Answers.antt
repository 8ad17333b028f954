-- One latch more has a depth.
use Rattle.std.proofs.Common.{length, ap, arith}
use Rattle.class_search.proofs.event_order.LatchDepths.{item_at, out_within, depth_told, one_more, all_have}
use Rattle.class_search.proofs.event_order.depths.have_depths.Goals as goal

pub depth-requires : goal.depth-requires
depth-requires c =
    out_within c.args.net.now c.keeps.ensures.sound c.args.graph.now c.requires c.loop-latch.latch-index c.latch-item.result
    (item_at c.args.net.now.latches c.latches-latch-items.result.now c.loop-latch.latch-index c.latch-item.result c.latches-latch-items.ensures c.loop-latch-test.true c.latch-item.is)

pub loop-latch-preserved : goal.loop-latch-preserved
loop-latch-preserved c =
    one_more c.args.net.now c.loop-latch.latch-index c.latch-item.result c.loop-latch.invariant
    (item_at c.args.net.now.latches c.latches-latch-items.result.now c.loop-latch.latch-index c.latch-item.result c.latches-latch-items.ensures c.loop-latch-test.true c.latch-item.is) c.in-Some.field-0
    (depth_told c.args.net.now c.args.graph.now c.requires c.latch-item.result.out.0 c.in-Some.field-0 c.in-Some.ensures.depth)

pub returns : goal.returns
returns c = λ e. all_have c.args.net.now c.loop-latch.latch-index (let e = ap length c.latches-latch-items.ensures in omega (arith, e, c.loop-latch-test.false)) c.loop-latch.invariant

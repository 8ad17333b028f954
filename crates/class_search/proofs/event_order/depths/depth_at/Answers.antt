-- The graph tells the depth of an enabled latch.
use Rattle.std.proofs.Common.{true, false, arith}
use Rattle.class_search.proofs.event_order.LatchDepths.{bit_at, latch_read, out_within, unmarked, told_read}
use Rattle.class_search.proofs.event_order.depths.depth_at.Goals as goal

pub depth-requires : goal.depth-requires
depth-requires c = out_within c.args.net.now c.keeps.ensures.sound c.args.graph.now c.requires.graph c.args.j _ (latch_read c.args.net.now.latches c.latches.result.now c.args.j _ c.latches.ensures c.requires.latch)

pub returns-then-as_slice-j : goal.returns-then-as_slice-j
returns-then-as_slice-j c = λ l at.
    told_read c.args.net.now c.args.enabled.now c.requires.marked c.args.j l at c.args.graph.now c.requires.graph _ (latch_read c.args.net.now.latches c.latches.result.now c.args.j _ c.latches.ensures c.requires.latch)
    (bit_at c.args.enabled.now c.as_slice.result.now c.args.j true c.as_slice.ensures (omega (arith, c.requires.latch, c.requires.marked.each)) c.if-as_slice-j.true) c.depth.result c.depth.ensures.depth c.depth.ensures.none

pub returns-else-as_slice-j : goal.returns-else-as_slice-j
returns-else-as_slice-j c = λ l at.
    unmarked c.args.net.now c.args.enabled.now c.requires.marked c.args.j l at (bit_at c.args.enabled.now c.as_slice.result.now c.args.j false c.as_slice.ensures (omega (arith, c.requires.latch, c.requires.marked.each)) c.if-as_slice-j.false)

-- One place more.
use Rattle.std.proofs.Common.{◌<◌, length, get_or, ap, arith}
use Rattle.flat_net.proofs.Growth.{length-push}
use Rattle.reset_form.proofs.reset_unfold.CycleLeaves.{front_next}
use Rattle.reset_form.proofs.reset_unfold.cone.block_of.Goals as goal

pub loop-i-preserved : goal.loop-i-preserved
loop-i-preserved c =
    let inside : c.loop-i.i < length c.args.visited.now = omega (arith, c.loop-i-test.true, c.requires) in
    record {
      size = let long = ap length c.in_ok-push.ensures.items in let more = length-push c.loop-i.block.items (0, (get_or c.args.visited.now c.loop-i.i (0, 0)).1) in omega (arith, long, more, c.loop-i.invariant.size);
      front = front_next c.args.visited.now c.start_of-from.result c.loop-i.i (0, 0) c.loop-i.block.items _ c.loop-i.invariant.size inside c.in_ok-push.ensures.items c.loop-i.invariant.front;
    }

pub returns : goal.returns
returns c = record {
  from = c.start_of-from.result;
  start = c.start_of-from.ensures;
  size = omega (arith, c.loop-i.invariant.size, c.loop-i-test.false, c.loop-i.auto.i-end, c.start_of-from.ensures.before);
  each = c.loop-i.invariant.front;
}

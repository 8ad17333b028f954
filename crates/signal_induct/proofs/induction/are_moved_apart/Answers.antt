-- Both nets are ready.
use Rattle.std.proofs.Common.{arith}
use Rattle.block_refine.proofs.block_graph.Numbered.{light_few}
use Rattle.induct.proofs.OwnNumbers.{orders_long}
use Rattle.signal_induct.proofs.induction.are_moved_apart.Goals as goal

pub are_moved-requires : goal.are_moved-requires
are_moved-requires c =
    let a = c.args.a.now in
    let b = c.args.b.now in
    let long = orders_long a b c.args.orders.now c.requires.orders in
    let left = light_few a c.keeps.ensures.sound in
    let right = light_few b c.keeps-2.ensures.sound in
    record {
      left_long = long.0;
      right_long = long.1;
      left_small = c.requires.left_small;
      right_small = c.requires.right_small;
      few = omega (arith, left, right, c.requires.light.0, c.requires.light.1);
    }

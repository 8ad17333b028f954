use Rattle.std.proofs.Common.{◌++◌}
use Rattle.block_refine.specs.latch_blocks.Laws.{pairs_alike}
use Rattle.block_refine.specs.latch_blocks.Partitions.{IsOnTheWay}
use Rattle.block_refine.proofs.refinement.refine.Given as goal

abbrev pub invariant-rounds : goal.invariant-rounds
invariant-rounds l = IsOnTheWay l.left l.right (l.orders.left ++ l.orders.right) l.blocks

abbrev pub decreases-rounds : goal.decreases-rounds
decreases-rounds l = pairs_alike l.blocks

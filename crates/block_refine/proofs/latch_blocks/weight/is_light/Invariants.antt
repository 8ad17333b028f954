use Rattle.std.proofs.Common.{◌≡◌, ◌≤◌}
use Rattle.block_refine.proofs.latch_blocks.Weights.{weight_below}
use Rattle.block_refine.proofs.latch_blocks.weight.is_light.Given as goal

abbrev pub invariant-loop-s : goal.invariant-loop-s
invariant-loop-s l = record { counted : l.total ≡ weight_below l.net l.s; small : l.total ≤ 2000000 }

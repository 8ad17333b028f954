use Rattle.std.proofs.Common.{◌≡◌, length}
use Rattle.block_refine.specs.latch_blocks.Numbers.{IsNumberedBy, split_key}
use Rattle.block_refine.proofs.latch_blocks.partition.split_blocks.Given as goal

abbrev pub invariant-loop-j : goal.invariant-loop-j
invariant-loop-j l = record { numbered : IsNumberedBy (split_key l.blocks l.bits) l.table l.fine; each : length l.fine ≡ l.j }

use Rattle.std.proofs.Common.{◌≡◌, length}
use Rattle.block_refine.specs.latch_blocks.Numbers.{IsNumberedBy, start_key}
use Rattle.block_refine.proofs.latch_blocks.partition.initial_blocks.Given as goal

abbrev pub invariant-loop-j : goal.invariant-loop-j
invariant-loop-j l = record { numbered : IsNumberedBy (start_key l.starts) l.table l.blocks; each : length l.blocks ≡ l.j }

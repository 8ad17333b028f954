use Rattle.std.proofs.Common.{◌≡◌, take}
use Rattle.std.specs.List.{filter_map}
use Rattle.block_refine.specs.latch_blocks.Signals.{variable_at}
use Rattle.block_refine.proofs.latch_blocks.support.leaves.Given as goal

abbrev pub invariant-loop-s : goal.invariant-loop-s
invariant-loop-s l = l.found.items ≡ filter_map (variable_at l.net l.variables) (take l.s-index l.s-items)

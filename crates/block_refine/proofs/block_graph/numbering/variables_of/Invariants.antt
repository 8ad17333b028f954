use Rattle.std.proofs.Common.{◌≡◌, ◌+◌, map, take}
use Rattle.block_refine.proofs.block_graph.numbering.variables_of.Given as goal

abbrev pub invariant-loop-block : goal.invariant-loop-block
invariant-loop-block l = l.latches ≡ map (λ k. l.first + k) (take l.block-index l.blocks)

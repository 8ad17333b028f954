use Rattle.std.proofs.Common.{◌≡◌, ◌++◌, map, take}
use Rattle.block_refine.proofs.block_graph.Taken.{taken}
use Rattle.block_refine.proofs.block_graph.nexts.put_nexts.Given as goal

abbrev pub invariant-loop-latch : goal.invariant-loop-latch
invariant-loop-latch l = l.made.items ≡ l.initial.made.items ++ map (taken l.values l.lits) (take l.latch-index l.latches)

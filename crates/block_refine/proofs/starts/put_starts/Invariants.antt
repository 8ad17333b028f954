use Rattle.std.proofs.Common.{◌≡◌, ◌++◌, map, take}
use Rattle.flat_net.specs.declared.parts.LatchAt.{LatchAt}
use Rattle.block_refine.proofs.starts.put_starts.Given as goal

abbrev pub invariant-loop-latch : goal.invariant-loop-latch
invariant-loop-latch l = l.made.items ≡ l.initial.made.items ++ map (λ (k : LatchAt). k.init) (take l.latch-index l.latches)

use Rattle.std.proofs.Common.{◌≡◌, ◌+◌, length}
use Rattle.reset_form.proofs.reset_unfold.CycleLeaves.{IsFront}
use Rattle.reset_form.proofs.reset_unfold.cone.block_of.Given as goal

abbrev pub invariant-loop-i : goal.invariant-loop-i
invariant-loop-i l = record { size : l.from + length l.block.items ≡ l.i; front : IsFront l.visited l.from l.block.items }

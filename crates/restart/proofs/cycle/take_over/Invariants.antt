use Rattle.std.proofs.Common.{◌≡◌, ◌<◌, ℕ, Some, None, get_or, slice_get}
use Rattle.flat_net.specs.declared.parts.LatchAt.{LatchAt}
use Rattle.restart.proofs.cycle.take_over.Given as goal

abbrev pub invariant-loop-j : goal.invariant-loop-j
invariant-loop-j l = (k : ℕ) (m : LatchAt) → k < l.j → slice_get l.net.latches k ≡ Some m → slice_get l.latches k ≡ Some (get_or l.values m.next.0 None)

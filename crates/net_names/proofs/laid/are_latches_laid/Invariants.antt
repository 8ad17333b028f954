use Rattle.std.proofs.Common.{◌≡◌, ◌+◌, ◌<◌, ℕ, slice_get, Some}
use Rattle.flat_net.specs.declared.parts.LatchAt.{LatchAt}
use Rattle.net_names.proofs.laid.are_latches_laid.Given as goal

abbrev pub invariant-loop-place : goal.invariant-loop-place
invariant-loop-place l = (j : ℕ) (x : LatchAt) → slice_get l.latches j ≡ Some x → j < l.place → x.out.0 ≡ l.first + j

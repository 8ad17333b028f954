use Rattle.std.proofs.Common.{◌≡◌, ◌+◌, ◌<◌, ℕ, slice_get, Some}
use Rattle.flat_net.specs.declared.parts.Gate.{Gate}
use Rattle.net_names.proofs.laid.are_gates_laid.Given as goal

abbrev pub invariant-loop-place : goal.invariant-loop-place
invariant-loop-place l = (k : ℕ) (g : Gate) → slice_get l.gates k ≡ Some g → k < l.place → g.out.0 ≡ l.first + k

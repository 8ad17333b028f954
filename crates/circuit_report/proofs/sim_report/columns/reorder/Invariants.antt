use Rattle.std.proofs.Common.{◌≡◌, ◌<◌, ℕ, Some, false, get_or, slice_get}
use Rattle.circuit_report.proofs.sim_report.columns.reorder.Given as goal

abbrev pub invariant-loop-i : goal.invariant-loop-i
invariant-loop-i l = (k c : ℕ) → k < l.i → slice_get l.columns k ≡ Some c → slice_get l.bits k ≡ Some (get_or l.row c false)

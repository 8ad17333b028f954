use Rattle.std.proofs.Common.{◌≡◌, ◌<◌, ℕ, false, slice_get, get_or, Some}
use Rattle.aig.proofs.lane_eval.root_classes.partition.all_follow.Given as goal

abbrev pub invariant-loop-i : goal.invariant-loop-i
invariant-loop-i l = (i p : ℕ) → i < l.i → slice_get l.firsts i ≡ Some p → get_or l.bits i false ≡ get_or l.bits p false

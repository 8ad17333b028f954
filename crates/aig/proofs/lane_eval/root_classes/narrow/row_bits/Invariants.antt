use Rattle.std.proofs.Common.{◌≡◌, ◌<◌, ℕ, Bool, slice_get, Some}
use Rattle.aig.specs.lane_eval.root_classes.Rows.{row_of}
use Rattle.aig.proofs.lane_eval.root_classes.narrow.row_bits.Given as goal

abbrev pub invariant-loop-i : goal.invariant-loop-i
invariant-loop-i l = (j : ℕ) (b : Bool) → j < l.i → slice_get l.bits j ≡ Some b → b ≡ row_of l.aig l.vars l.roots l.number j

use Rattle.std.proofs.Common.{◌≡◌, ◌<◌, ◌≤◌, ℕ, slice_get, Some}
use Rattle.cbf_unfold.specs.shift_variables.Variables.{variable_of}
use Rattle.cbf_unfold.proofs.shift_variables.rows.end_of_shift.Given as goal

abbrev pub invariant-loop-k : goal.invariant-loop-k
invariant-loop-k l = (j v : ℕ) → l.from ≤ j → j < l.k → slice_get l.vars j ≡ Some v → (variable_of l.places v).at ≡ l.shift

use Rattle.std.proofs.Common.{◌≡◌, ℕ, ◌<◌, ◌≤◌, slice_get, Some}
use Rattle.reset_form.proofs.reset_unfold.cone.start_of.Given as goal

abbrev pub invariant-loop-from : goal.invariant-loop-from
invariant-loop-from l = record {
  before : l.from ≤ l.end;
  same : (i : ℕ) (p : ℕ × ℕ) → l.from ≤ i → i < l.end → slice_get l.visited i ≡ Some p → p.0 ≡ l.cycle;
}

abbrev pub decreases-loop-from : goal.decreases-loop-from
decreases-loop-from l = l.from

use Rattle.std.proofs.Common.{◌≡◌, length}
use Rattle.job_after.proofs.shown.or_zero.Given as goal

abbrev pub invariant-loop-value : goal.invariant-loop-value
invariant-loop-value l = length l.filled.items ≡ l.value-index

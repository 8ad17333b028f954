use Rattle.std.proofs.Common.{◌≡◌, ℕ, ◌<◌, length, slice_get, Some}
use Rattle.latch_kinds.proofs.unate_enable.recovery.numbers.Given as goal

abbrev pub invariant-loop-k : goal.invariant-loop-k
invariant-loop-k l = record { count : length l.numbers ≡ l.k; each : (i : ℕ) → i < l.k → slice_get l.numbers i ≡ Some i }

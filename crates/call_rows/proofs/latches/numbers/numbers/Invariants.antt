use Rattle.std.proofs.Common.{◌≡◌, ◌<◌, ◌≤◌, ◌^◌, ℕ, length, slice_get, Some}
use Rattle.std.specs.List.{All}
use Rattle.call_rows.proofs.latches.numbers.numbers.Given as goal

abbrev pub invariant-loop-number : goal.invariant-loop-number
invariant-loop-number l = record {
  each : length l.made ≡ l.number;
  small : All (λ i. i < 2 ^ 31) l.made;
  few : l.count ≤ 1000000;
  at : (i x : ℕ) → slice_get l.made i ≡ Some x → x ≡ i;
}

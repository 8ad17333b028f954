use Rattle.std.proofs.Common.{◌≡◌, ◌<◌, ℕ, false, get_or}
use Rattle.text_numbers.specs.declared.numbers.Number.{Number}
use Rattle.text_numbers.specs.Numbers.{is_zero}
use Rattle.text_numbers.proofs.numbers.split_at_zero.Given as goal

-- no 0 so far
abbrev pub invariant-loop-place : goal.invariant-loop-place
invariant-loop-place l = (k : ℕ) (d : Number) → k < l.place → is_zero (get_or l.numbers k d) ≡ false

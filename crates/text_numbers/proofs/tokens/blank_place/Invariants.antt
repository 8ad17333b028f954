use Rattle.std.proofs.Common.{◌≡◌, ◌<◌, ℕ, false, get_or}
use Rattle.text_numbers.specs.Lines.{is_blank}
use Rattle.text_numbers.proofs.tokens.blank_place.Given as goal

-- no blank so far
abbrev pub invariant-loop-place : goal.invariant-loop-place
invariant-loop-place l = (k : ℕ) → k < l.place → is_blank (get_or l.line k 0) ≡ false

use Rattle.std.proofs.Common.{◌≡◌, ◌<◌, ℕ, false, get_or}
use Rattle.text_numbers.specs.Lines.{is_line_feed}
use Rattle.text_numbers.proofs.lines.line_end.Given as goal

-- no line feed so far
abbrev pub invariant-loop-place : goal.invariant-loop-place
invariant-loop-place l = (k : ℕ) → k < l.place → is_line_feed (get_or l.text k 0) ≡ false

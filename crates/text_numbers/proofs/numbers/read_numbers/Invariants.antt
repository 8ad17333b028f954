use Rattle.std.proofs.Common.{◌≡◌, length}
use Rattle.text_numbers.specs.Numbers.{numbers_of, behind}
use Rattle.text_numbers.proofs.numbers.read_numbers.Given as goal

-- the numbers so far, and those of the tokens that are left
abbrev pub invariant-loop-token : goal.invariant-loop-token
invariant-loop-token l = behind l.fn.numbers.items (numbers_of l.initial.left) ≡ behind l.numbers.items (numbers_of l.left)

abbrev pub decreases-loop-token : goal.decreases-loop-token
decreases-loop-token l = length l.left

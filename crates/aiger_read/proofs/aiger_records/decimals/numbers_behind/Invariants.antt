use Rattle.std.proofs.Common.{◌≡◌, length}
use Rattle.aiger_read.specs.aiger_records.Numbers.{numbers, numbers_behind, words_left}
use Rattle.aiger_read.proofs.aiger_records.decimals.numbers_behind.Given as goal

abbrev pub invariant-loop-left : goal.invariant-loop-left
invariant-loop-left l = numbers_behind l.fn.begun.items (numbers (words_left l.fn.rest)) ≡ numbers_behind l.numbers.items (numbers (words_left l.left))

abbrev pub decreases-loop-left : goal.decreases-loop-left
decreases-loop-left l = length (words_left l.left)

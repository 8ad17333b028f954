-- Those so far are.
use Rattle.std.proofs.Common.{ℕ, ◌<◌, get_or}
use Rattle.word_sums.specs.declared.vanishing.Term.{Term}
use Rattle.word_sums.proofs.vanishing.are_below.Given as goal

abbrev pub invariant-loop-i : goal.invariant-loop-i
invariant-loop-i l = (k : ℕ) (d : Term) → k < l.i → (get_or l.terms k d).lit.0 < l.number

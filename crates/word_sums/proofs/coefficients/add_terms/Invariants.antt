-- The terms so far are added.
use Rattle.std.proofs.Common.{ℕ, ◌+◌, ◌*◌, Bool, take}
use Rattle.word_sums.specs.Sums.{sum_number, terms_number, AreCongruent}
use Rattle.word_sums.proofs.coefficients.add_terms.Given as goal

abbrev pub invariant-loop-i : goal.invariant-loop-i
invariant-loop-i l = (f : ℕ → Bool) → AreCongruent (sum_number f 0 l.coefficients) (sum_number f 0 l.initial.coefficients + l.times * terms_number f (take l.i l.terms))

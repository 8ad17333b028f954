-- What the terms so far come to.
use Rattle.std.proofs.Common.{ℕ, Bool, take}
use Rattle.aig.specs.Values.{value}
use Rattle.word_sums.specs.Sums.{terms_number, AreCongruent}
use Rattle.word_sums.specs.Cuts.{IsAtRow}
use Rattle.word_sums.proofs.vanishing.number_at.Given as goal

abbrev pub invariant-loop-i : goal.invariant-loop-i
invariant-loop-i l = (a : ℕ → Bool) → IsAtRow l.graph a l.cut l.row → AreCongruent (terms_number (value l.graph a) (take l.i l.terms)) l.number

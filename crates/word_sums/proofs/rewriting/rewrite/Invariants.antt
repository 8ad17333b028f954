-- The rules so far keep the sum.
use Rattle.word_sums.specs.Sums.{KeepsSum}
use Rattle.word_sums.proofs.rewriting.rewrite.Given as goal

abbrev pub invariant-loop-i : goal.invariant-loop-i
invariant-loop-i l = KeepsSum l.graph l.initial.coefficients l.coefficients

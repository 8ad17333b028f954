-- The nodes so far keep the sum.
use Rattle.word_sums.specs.Sums.{KeepsSum}
use Rattle.word_sums.proofs.rewriting.clear_complements.Given as goal

abbrev pub invariant-loop-n : goal.invariant-loop-n
invariant-loop-n l = KeepsSum l.graph l.initial.coefficients l.coefficients

-- None is left.
use Rattle.std.proofs.Common.{arith}
use Rattle.word_sums.proofs.SumLemmas.{sum-none}
use Rattle.word_sums.proofs.coefficients.is_empty.Goals as goal

pub returns : goal.returns
returns c = λ yes f. sum-none f 0 c.args.coefficients.now (λ k inside. c.loop-i.invariant k (omega arith))

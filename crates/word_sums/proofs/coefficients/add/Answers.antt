-- One coefficient is another one.
use Rattle.std.proofs.Common.{◌+◌, get_or}
use Rattle.word_sums.proofs.Congruent.{cong-mod}
use Rattle.word_sums.proofs.SumLemmas.{sum-more}
use Rattle.word_sums.proofs.coefficients.add.Goals as goal

pub returns-clause-sum : goal.returns-clause-sum
returns-clause-sum c = λ f. sum-more f c.args.coefficients.now c.args.l.0 _ c.args.times c.requires (cong-mod (get_or c.args.coefficients.now c.args.l.0 0 + c.args.times))

-- Both steps keep the sum.
use Rattle.word_sums.proofs.Congruent.{cong-trans}
use Rattle.word_sums.proofs.rewriting.replace.Goals as goal

pub returns-clause-sum : goal.returns-clause-sum
returns-clause-sum c = λ a. cong-trans (c.cancel.ensures.sum a) (c.clear_complement.ensures.sum a)

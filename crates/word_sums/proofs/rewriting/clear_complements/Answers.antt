-- One node more.
use Rattle.word_sums.proofs.Congruent.{cong-trans}
use Rattle.word_sums.proofs.rewriting.clear_complements.Goals as goal

pub loop-n-preserved : goal.loop-n-preserved
loop-n-preserved c = λ a. cong-trans (c.clear_complement.ensures.sum a) (c.loop-n.invariant a)

pub returns-clause-sum : goal.returns-clause-sum
returns-clause-sum c = λ a. cong-trans (c.cancel.ensures.sum a) (c.loop-n.invariant a)

-- One rule more.
use Rattle.word_sums.proofs.Congruent.{cong-trans}
use Rattle.word_sums.proofs.rewriting.rewrite.Goals as goal

pub loop-i-preserved : goal.loop-i-preserved
loop-i-preserved c = λ a. cong-trans (c.replace.ensures.sum a) (c.loop-i.invariant a)

pub returns-then-count-terms-clause-sum : goal.returns-then-count-terms-clause-sum
returns-then-count-terms-clause-sum c = λ a. cong-trans (c.replace.ensures.sum a) (c.loop-i.invariant a)

-- One bit more of each word.
use Rattle.std.proofs.Common.{arith}
use Rattle.word_sums.proofs.SumLemmas.{words-step, weight-step}
use Rattle.word_sums.proofs.coefficients.put_words.Goals as goal

pub loop-i-preserved : goal.loop-i-preserved
loop-i-preserved c = (
  weight-step c.args.times c.loop-i.weight c.loop-i.i c.loop-i.invariant.0,
  λ f. words-step f c.args.coefficients.now c.loop-i.coefficients c.add.new.coefficients c.add-in-loop-i.new.coefficients c.args.left.now c.args.right.now c.loop-i.i _ _ c.args.times c.loop-i.weight
      c.wrapping_neg.result c.loop-i-test.true (omega arith) c.loop-i.invariant.0 c.wrapping_neg.ensures (c.loop-i.invariant.1 f) (c.add.ensures.sum f) (c.add-in-loop-i.ensures.sum f),
)

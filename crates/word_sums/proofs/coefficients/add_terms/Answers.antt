-- One term more.
use Rattle.word_sums.proofs.Congruent.{cong-mod}
use Rattle.word_sums.proofs.SumLemmas.{add-step}
use Rattle.word_sums.proofs.coefficients.add_terms.Goals as goal

pub loop-i-preserved : goal.loop-i-preserved
loop-i-preserved c = λ f.
    add-step f c.args.coefficients.now c.loop-i.coefficients c.add.new.coefficients c.args.terms.now c.loop-i.i _ c.args.times _ c.loop-i-test.true (cong-mod _) (c.loop-i.invariant f) (c.add.ensures.sum f)

-- One term more.
use Rattle.aig.specs.Values.{value}
use Rattle.word_sums.proofs.SumLemmas.{terms-step}
use Rattle.word_sums.proofs.vanishing.number_at.Goals as goal

pub loop-i-preserved : goal.loop-i-preserved
loop-i-preserved c = λ a at.
    terms-step (value c.args.graph.now a) c.args.terms.now c.loop-i.i _ c.loop-i.number c.weighed-number.result c.in_ok-bit.bit c.loop-i-test.true (c.in_ok-bit.ensures a at) c.weighed-number.ensures (c.loop-i.invariant a at)

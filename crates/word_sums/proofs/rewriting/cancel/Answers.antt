-- What comes to 0 is added.
use Rattle.aig.specs.Values.{value}
use Rattle.word_sums.proofs.Congruent.{cong-none}
use Rattle.word_sums.proofs.rewriting.cancel.Goals as goal

pub returns-clause-sum : goal.returns-clause-sum
returns-clause-sum c = λ a. cong-none c.args.times (c.add_terms.ensures.sum (value c.args.graph.now a)) (c.vanish.ensures c.if-not-vanish.false a)

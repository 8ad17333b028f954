use Rattle.aig.proofs.CoverMeaning.{value-zero}
use Rattle.swept_queries.proofs.node_agreement.signs.zero.Goals as goal

pub returns-clause-value : goal.returns-clause-value
returns-clause-value c = λ a. value-zero c.args.graph.now c.keeps.ensures.graph a

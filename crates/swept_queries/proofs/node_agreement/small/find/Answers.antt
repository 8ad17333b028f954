use Rattle.std.proofs.Common.{◌/◌, ◌∙◌}
use Rattle.swept_queries.specs.node_agreement.Standing.{by_nodes}
use Rattle.swept_queries.proofs.node_agreement.Stood.{local-at}
use Rattle.swept_queries.proofs.node_agreement.small.find.Goals as goal

pub returns-then-numbers-p : goal.returns-then-numbers-p
returns-then-numbers-p c = λ g small are.
    c.signed.ensures.stands (by_nodes g) g small (local-at g small c.args.numbers.now c.args.lits.now c.in-Ok.p (c.args.l.0 / 2) _ c.if-p-numbers.true c.if-p-lits.true (c.if-numbers-p.true ∙ c.node-node.ensures) are)

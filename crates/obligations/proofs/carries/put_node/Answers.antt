use Rattle.std.proofs.Common.{◌*◌, arith}
use Rattle.aig.specs.declared.node.Lit.{Lit}
use Rattle.swept_queries.specs.node_agreement.Standing.{plainly}
use Rattle.swept_queries.proofs.node_agreement.Stood.{stands-and, IfOk-both}
use Rattle.obligations.proofs.carries.put_node.Goals as goal

pub and-requires-clause-left : goal.and-requires-clause-left
and-requires-clause-left c = (c.literal_for.ensures c.args.old.now c.args.graph.now c.requires.stand).within

pub and-requires-clause-right : goal.and-requires-clause-right
and-requires-clause-right c = (c.literal_for-in-And.ensures c.args.old.now c.args.graph.now c.requires.stand).within

pub returns-in-And-clause-stands : goal.returns-in-And-clause-stands
returns-in-And-clause-stands c =
    IfOk-both c.and.result _ _ _
    (λ (x : Lit) within made.
    stands-and plainly c.args.old.now c.args.graph.now c.and.new.self (2 * c.args.n) c.in-And.l.0 c.in-And.r.0 c.literal_for.result.0 c.literal_for-in-And.result.0 x.0 c.in-And.ensures.value
    (c.literal_for.ensures c.args.old.now c.args.graph.now c.requires.stand) (c.literal_for-in-And.ensures c.args.old.now c.args.graph.now c.requires.stand) within made)
    c.and.ensures.within c.and.ensures.value

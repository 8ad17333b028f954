use Rattle.std.proofs.Common.{◌*◌}
use Rattle.aig.specs.declared.node.Lit.{Lit}
use Rattle.swept_queries.specs.node_agreement.Standing.{by_nodes}
use Rattle.swept_queries.proofs.node_agreement.Stood.{stands-and, IfOk-both}
use Rattle.aig.proofs.Meaning.{value-grows}
use Rattle.swept_queries.proofs.node_agreement.small.put_node.Goals as goal

pub and-requires-clause-left : goal.and-requires-clause-left
and-requires-clause-left c = (c.in-Some-Some.ensures c.args.graph.now c.args.small.now c.requires.local).within

pub and-requires-clause-right : goal.and-requires-clause-right
and-requires-clause-right c = (c.in-Some-Some.ensures' c.args.graph.now c.args.small.now c.requires.local).within

pub returns-in-Some-Some-clause-stands : goal.returns-in-Some-Some-clause-stands
returns-in-Some-Some-clause-stands c =
    IfOk-both c.and.result _ _ _
    (λ (x : Lit) within made.
    stands-and (by_nodes c.args.graph.now) c.args.graph.now c.args.small.now c.and.new.self (2 * c.args.n) c.in-And.l.0 c.in-And.r.0 c.in-Some-Some.s.0 c.in-Some-Some.t.0 x.0 c.in-And.ensures.value
    (c.in-Some-Some.ensures c.args.graph.now c.args.small.now c.requires.local) (c.in-Some-Some.ensures' c.args.graph.now c.args.small.now c.requires.local) within made)
    c.and.ensures.within c.and.ensures.value

pub returns-in-Some-Some-clause-older : goal.returns-in-Some-Some-clause-older
returns-in-Some-Some-clause-older c = value-grows c.args.small.now c.and.new.self c.and.ensures.grows

-- What the node reads has its literals.
use Rattle.std.proofs.Common.{◌*◌, arith}
use Rattle.aig.specs.declared.node.Lit.{Lit}
use Rattle.aig.specs.declared.node.Node.TheVariants.{Input}
use Rattle.aig.proofs.Insert.{vars_of-member}
use Rattle.aig.proofs.Meaning.{value-grows}
use Rattle.swept_queries.specs.node_agreement.Standing.{plainly}
use Rattle.swept_queries.proofs.node_agreement.Stood.{stands-and, IfOk-both}
use Rattle.merged_graph.proofs.stand_ins.put_node.Goals as goal

pub input-requires-clause-small : goal.input-requires-clause-small
input-requires-clause-small c = omega (arith, vars_of-member c.args.other.now c.args.n (Input c.in-Input.v) c.in-Input.ensures.node, c.vars-vars.ensures)

pub and-requires-clause-left : goal.and-requires-clause-left
and-requires-clause-left c = (c.literal_for.ensures c.args.other.now c.args.graph.now c.requires.lits).within

pub and-requires-clause-right : goal.and-requires-clause-right
and-requires-clause-right c = (c.literal_for-in-And.ensures c.args.other.now c.args.graph.now c.requires.lits).within

pub returns-in-And-clause-stands : goal.returns-in-And-clause-stands
returns-in-And-clause-stands c =
    IfOk-both c.and.result _ _ _
    (λ (x : Lit) within made.
    stands-and plainly c.args.other.now c.args.graph.now c.and.new.self (2 * c.args.n) c.in-And.l.0 c.in-And.r.0 c.literal_for.result.0 c.literal_for-in-And.result.0 x.0 c.in-And.ensures.value
    (c.literal_for.ensures c.args.other.now c.args.graph.now c.requires.lits) (c.literal_for-in-And.ensures c.args.other.now c.args.graph.now c.requires.lits) within made)
    c.and.ensures.within c.and.ensures.value

pub returns-in-And-clause-older : goal.returns-in-And-clause-older
returns-in-And-clause-older c = value-grows c.args.graph.now c.and.new.self c.and.ensures.grows

-- The literal stands for the node.
use Rattle.std.proofs.Common.{◌*◌, arith}
use Rattle.aig.specs.declared.node.Node.TheVariants.{Input}
use Rattle.aig.proofs.Insert.{vars_of-member}
use Rattle.sweep_candidates.proofs.case_split.Standing.{under-and}
use Rattle.aig.proofs.Meaning.{value-grows}
use Rattle.sweep_candidates.proofs.case_split.case.put_node.Goals as goal

pub input-requires-clause-small : goal.input-requires-clause-small
input-requires-clause-small c =
    omega (arith, vars_of-member c.args.graph.now c.args.n (Input c.in-Input.v) c.in-Input.ensures.node, c.vars-vars.ensures)

pub and-requires-clause-left : goal.and-requires-clause-left
and-requires-clause-left c = (c.in-Some-Some.ensures c.args.var c.args.bit c.args.graph.now c.args.small.now c.requires.under).within

pub and-requires-clause-right : goal.and-requires-clause-right
and-requires-clause-right c = (c.in-Some-Some.ensures' c.args.var c.args.bit c.args.graph.now c.args.small.now c.requires.under).within

pub returns-in_ok-lit-in-And-clause-stands : goal.returns-in_ok-lit-in-And-clause-stands
returns-in_ok-lit-in-And-clause-stands c =
    under-and c.args.var c.args.bit c.args.graph.now c.args.small.now c.and.new.self (2 * c.args.n) c.in-And.l.0 c.in-And.r.0 c.in-Some-Some.s.0 c.in-Some-Some.t.0 c.in_ok-lit-in-And.lit.0 c.in-And.ensures.value
    (c.in-Some-Some.ensures c.args.var c.args.bit c.args.graph.now c.args.small.now c.requires.under) (c.in-Some-Some.ensures' c.args.var c.args.bit c.args.graph.now c.args.small.now c.requires.under)
    c.in_ok-lit-in-And.ensures.within c.in_ok-lit-in-And.ensures.value

pub returns-in_ok-lit-in-And-clause-older : goal.returns-in_ok-lit-in-And-clause-older
returns-in_ok-lit-in-And-clause-older c = value-grows c.args.small.now c.and.new.self c.and.ensures.grows

pub returns-in_err-lit-in-And-clause-older : goal.returns-in_err-lit-in-And-clause-older
returns-in_err-lit-in-And-clause-older c = value-grows c.args.small.now c.and.new.self c.and.ensures.grows

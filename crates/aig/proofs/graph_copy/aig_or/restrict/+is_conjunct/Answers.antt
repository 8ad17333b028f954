-- The literal itself, or a step down by either operand.
use Rattle.std.proofs.Common.{◌∙◌, ◌-◌, Some, None, arith}
use Rattle.aig.specs.graph_copy.aig_or.ShortOr.{is_conjunct}
use Rattle.aig.proofs.graph_copy.aig_or.Deciding.{or_first, or_second, conjunct_itself, conjunct_ends, conjunct_under}
use Rattle.aig.proofs.graph_copy.aig_or.restrict.+is_conjunct.Goals as goal

pub returns-then-x-e : goal.returns-then-x-e
returns-then-x-e t c = conjunct_itself c.args.graph.now c.args.e.0 c.args.x.0 c.args.steps (omega arith)

pub returns-then-steps-eq0 : goal.returns-then-steps-eq0
returns-then-steps-eq0 t c = conjunct_ends c.args.graph.now c.args.e.0 c.args.x.0 c.args.steps (λ same. omega (arith, same)) (omega arith)

pub returns-then-is_conjunct : goal.returns-then-is_conjunct
returns-then-is_conjunct t c =
    or_first (is_conjunct c.args.graph.now (c.args.steps - 1) c.args.e.0 c.in-Some.l.0) (is_conjunct c.args.graph.now (c.args.steps - 1) c.args.e.0 c.in-Some.r.0) c.is_conjunct.result c.is_conjunct.ensures c.if-is_conjunct.true
    ∙ conjunct_under c.args.graph.now c.args.e.0 c.args.x.0 c.args.steps (c.args.steps - 1) (omega arith) (λ same. omega (arith, same)) (Some (c.in-Some.l, c.in-Some.r)) c.in-Some.ensures.operands

pub returns-else-is_conjunct : goal.returns-else-is_conjunct
returns-else-is_conjunct t c =
    or_second (is_conjunct c.args.graph.now (c.args.steps - 1) c.args.e.0 c.in-Some.l.0) (is_conjunct c.args.graph.now (c.args.steps - 1) c.args.e.0 c.in-Some.r.0) c.is_conjunct.result c.is_conjunct-else-is_conjunct.result c.is_conjunct.ensures c.if-is_conjunct.false c.is_conjunct-else-is_conjunct.ensures
    ∙ conjunct_under c.args.graph.now c.args.e.0 c.args.x.0 c.args.steps (c.args.steps - 1) (omega arith) (λ same. omega (arith, same)) (Some (c.in-Some.l, c.in-Some.r)) c.in-Some.ensures.operands

pub returns-in-None : goal.returns-in-None
returns-in-None t c = conjunct_under c.args.graph.now c.args.e.0 c.args.x.0 c.args.steps (c.args.steps - 1) (omega arith) (λ same. omega (arith, same)) None c.in-None.ensures.operands

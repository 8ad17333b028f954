-- A constant, the literal itself, or a step down by both operands.
use Rattle.std.proofs.Common.{◌∙◌, ◌-◌, ℕ, Some, None, sym, ap, arith}
use Rattle.std.specs.Prelude.{option_map, unwrap_or}
use Rattle.aig.specs.Rules.{simple_and}
use Rattle.aig.specs.graph_copy.aig_or.ShortOr.{is_conjunct, with_sign, restricted}
use Rattle.aig.proofs.graph_copy.aig_or.Deciding.{restricted_ends, restricted_on, restricted_off, restricted_under}
use Rattle.aig.proofs.graph_copy.aig_or.restrict.+restricted.Goals as goal

pub returns-then-steps-eq0 : goal.returns-then-steps-eq0
returns-then-steps-eq0 t c = restricted_ends c.args.graph.now c.args.a.0 c.args.x.0 c.args.steps (omega arith)

pub returns-then-is_conjunct : goal.returns-then-is_conjunct
returns-then-is_conjunct t c = restricted_on c.args.graph.now c.args.a.0 c.args.x.0 c.args.steps (λ none. omega (arith, none)) (sym c.if-is_conjunct.true ∙ c.is_conjunct.ensures)

pub returns-then-is_conjunct-2 : goal.returns-then-is_conjunct-2
returns-then-is_conjunct-2 t c =
    restricted_off c.args.graph.now c.args.a.0 c.args.x.0 c.args.steps (λ none. omega (arith, none)) (sym c.if-is_conjunct.false ∙ c.is_conjunct.ensures)
    (sym c.if-is_conjunct-2.true ∙ (c.is_conjunct-2.ensures ∙ ap (λ (y : ℕ). is_conjunct c.args.graph.now 7 y c.args.a.0) c.not.ensures.literal))

pub returns-in-Some : goal.returns-in-Some
returns-in-Some t c =
    c.joined.ensures
    ∙ (ap (λ (y : ℕ). unwrap_or (option_map (with_sign c.args.x.0) (simple_and y c.restricted-in-Some.result.0)) c.args.x.0) c.restricted.ensures
    ∙ (ap (λ (y : ℕ). unwrap_or (option_map (with_sign c.args.x.0) (simple_and (restricted c.args.graph.now (c.args.steps - 1) c.args.a.0 c.in-Some.l.0) y)) c.args.x.0) c.restricted-in-Some.ensures
    ∙ restricted_under c.args.graph.now c.args.a.0 c.args.x.0 c.args.steps (c.args.steps - 1) (omega arith) (sym c.if-is_conjunct.false ∙ c.is_conjunct.ensures)
    (sym c.if-is_conjunct-2.false ∙ (c.is_conjunct-2.ensures ∙ ap (λ (y : ℕ). is_conjunct c.args.graph.now 7 y c.args.a.0) c.not.ensures.literal)) (Some (c.in-Some.l, c.in-Some.r)) c.in-Some.ensures.operands))

pub returns-in-None : goal.returns-in-None
returns-in-None t c =
    restricted_under c.args.graph.now c.args.a.0 c.args.x.0 c.args.steps (c.args.steps - 1) (omega arith) (sym c.if-is_conjunct.false ∙ c.is_conjunct.ensures)
    (sym c.if-is_conjunct-2.false ∙ (c.is_conjunct-2.ensures ∙ ap (λ (y : ℕ). is_conjunct c.args.graph.now 7 y c.args.a.0) c.not.ensures.literal)) None c.in-None.ensures.operands

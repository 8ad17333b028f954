use Rattle.std.proofs.Common.{Bool, sym, ◌∙◌, ap}
use Rattle.blif_read.specs.declared.design.Pair.{Pair}
use Rattle.elaborate.specs.Scopes.{is_long_behind}
use Rattle.elaborate.proofs.Passed.{passed, met}
use Rattle.elaborate.proofs.checks.actuals_are_long.Goals as goal

pub loop-pair-preserved : goal.loop-pair-preserved
loop-pair-preserved c =
    let long : Pair → Bool = λ p. is_long_behind c.args.prefix p.actual in
    passed long _ c.args.pairs.now c.loop-pair.pair-index c.pair-item.result c.loop-pair.invariant c.pair-item.is c.loop-pair-test.true
    (ap (is_long_behind c.args.prefix) (sym c.as_slice.ensures) ∙ (sym c.is_long.ensures ∙ c.if-is_long.false))

pub returns-then-is_long : goal.returns-then-is_long
returns-then-is_long c =
    let long : Pair → Bool = λ p. is_long_behind c.args.prefix p.actual in
    met long _ c.args.pairs.now c.loop-pair.pair-index c.pair-item.result c.loop-pair.invariant c.pair-item.is c.loop-pair-test.true
    (ap (is_long_behind c.args.prefix) (sym c.as_slice.ensures) ∙ (sym c.is_long.ensures ∙ c.if-is_long.true))

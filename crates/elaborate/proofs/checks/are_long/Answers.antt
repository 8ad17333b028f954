use Rattle.std.proofs.Common.{sym, ◌∙◌, ap}
use Rattle.elaborate.specs.Scopes.{is_long_behind}
use Rattle.elaborate.proofs.Passed.{passed, met}
use Rattle.elaborate.proofs.checks.are_long.Goals as goal

pub loop-name-preserved : goal.loop-name-preserved
loop-name-preserved c =
    let long = is_long_behind c.args.prefix in
    passed long _ c.args.names.now c.loop-name.name-index c.name-item.result c.loop-name.invariant c.name-item.is c.loop-name-test.true (ap long (sym c.as_slice.ensures) ∙ (sym c.is_long.ensures ∙ c.if-is_long.false))

pub returns-then-is_long : goal.returns-then-is_long
returns-then-is_long c =
    let long = is_long_behind c.args.prefix in
    met long _ c.args.names.now c.loop-name.name-index c.name-item.result c.loop-name.invariant c.name-item.is c.loop-name-test.true (ap long (sym c.as_slice.ensures) ∙ (sym c.is_long.ensures ∙ c.if-is_long.true))

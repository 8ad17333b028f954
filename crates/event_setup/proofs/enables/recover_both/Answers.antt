-- The first latch that isn't known ends the work.
use Rattle.std.proofs.Common.{◌≡◌, Err, subst, sym, rules}
use Rattle.event_setup.specs.Recovered.{RecoversBoth}
use Rattle.event_setup.proofs.Recovering.{left_unknown, right_unknown}
use Rattle.event_setup.proofs.enables.recover_both.Goals as goal

pub returns-in_err-left : goal.returns-in_err-left
returns-in_err-left c =
    let same : c.from_residual.result ≡ Err c.in_err-left.field-0.0 = search rules in
    subst (RecoversBoth c.args.a.now c.args.b.now c.args.conflicts) (sym same) (left_unknown c.args.a.now c.args.b.now c.args.conflicts c.in_err-left.field-0.0 c.in_err-left.ensures)

pub returns-in_err-right : goal.returns-in_err-right
returns-in_err-right c =
    let same : c.from_residual-in_err-right.result ≡ Err c.in_err-right.field-0.0 = search rules in
    subst (RecoversBoth c.args.a.now c.args.b.now c.args.conflicts) (sym same) (right_unknown c.args.a.now c.args.b.now c.args.conflicts c.in_err-right.field-0.0 c.in_ok-left.ensures.1 c.in_err-right.ensures)

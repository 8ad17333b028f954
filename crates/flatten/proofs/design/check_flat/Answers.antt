use Rattle.std.proofs.lemmas.Result.{err_from_is_err_and}
use Rattle.flatten.proofs.Faulted.{wire_fault, loop_fault, is_sound}
use Rattle.flatten.proofs.design.check_flat.Goals as goal

pub returns-in_err-wired-clause-err : goal.returns-in_err-wired-clause-err
returns-in_err-wired-clause-err c =
    let p = err_from_is_err_and c.from_residual.result c.from_residual.ensures.1 in
    rw (p.1, p.2) (λ some. wire_fault c.args.design.now.models c.args.flat.now c.requires.walked c.in_err-wired.field-0.0 some c.in_err-wired.ensures.err)

pub returns-in_err-order-clause-err : goal.returns-in_err-order-clause-err
returns-in_err-order-clause-err c =
    let p = err_from_is_err_and c.from_residual-in_err-order.result c.from_residual-in_err-order.ensures.1 in
    rw (p.1, p.2) (λ some. loop_fault c.args.design.now.models c.args.flat.now c.requires.walked c.in_ok-wired.ensures.faultless c.in_err-order.field-0.0 (c.in_err-order.ensures.err some c.args.design.now.models))

pub returns-clause-sound : goal.returns-clause-sound
returns-clause-sound c = is_sound c.args.design.now.models c.args.flat.now c.requires.walked c.in_ok-wired.ensures.faultless c.in_ok-order.ensures.no_loop

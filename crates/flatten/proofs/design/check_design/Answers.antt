use Rattle.std.proofs.lemmas.Result.{err_from_is_err_and}
use Rattle.flatten.proofs.design.check_design.Goals as goal

pub returns-in_err-ordered-clause-err : goal.returns-in_err-ordered-clause-err
returns-in_err-ordered-clause-err c =
    let p = err_from_is_err_and c.from_residual-in_err-ordered.result c.from_residual-in_err-ordered.ensures.1 in
    rw (p.1, p.2) c.in_err-ordered.ensures.err

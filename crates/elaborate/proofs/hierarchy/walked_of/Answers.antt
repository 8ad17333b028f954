use Rattle.std.proofs.lemmas.Result.{err_from_is_err_and}
use Rattle.elaborate.proofs.Done.{walk_failed, walk_found}
use Rattle.elaborate.proofs.hierarchy.walked_of.Goals as goal

pub returns-in_err-walk_scope-clause-err : goal.returns-in_err-walk_scope-clause-err
returns-in_err-walk_scope-clause-err c =
    let p = err_from_is_err_and c.from_residual-in_err-walk_scope.result c.from_residual-in_err-walk_scope.ensures.1 in
    rw (p.1, p.2) (λ ne.
    walk_failed c.args.models.now c.main.result c.new-walked.result c.in_err-walk_scope.field-0.0 c.main.ensures.steps c.main.ensures.model c.new-walked.ensures (c.in_err-walk_scope.ensures.err ne))

pub returns-clause-ok : goal.returns-clause-ok
returns-clause-ok c = walk_found c.args.models.now c.main.result c.new-walked.result c.walk_scope.new.walked c.main.ensures.steps c.main.ensures.model c.new-walked.ensures c.in_ok-walk_scope.ensures.kept c.in_ok-walk_scope.ensures.ok

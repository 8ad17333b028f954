use Rattle.std.proofs.Common.{◌≡◌, ◌<◌, ◌^◌, List, length, Some, slice_get, get_or, sym, subst, refl}
use Rattle.std.specs.List.{All}
use Rattle.std.proofs.lemmas.Option.{slice_get_read}
use Rattle.std.proofs.lemmas.Result.{err_from_is_err_and}
use Rattle.blif_read.specs.declared.design.BlifModel.{BlifModel}
use Rattle.elaborate.specs.Walking.{design_walk_fault}
use Rattle.elaborate.proofs.Done.{Done, done_at, walked_is, few_statements}
use Rattle.elaborate.proofs.hierarchy.walk.Goals as goal

pub walked_of-requires-clause-few : goal.walked_of-requires-clause-few
walked_of-requires-clause-few c =
    subst (λ (ms : List BlifModel). All (λ (m : BlifModel). length m.statements < 2 ^ 32) ms) (sym c.as_slice-models.ensures) (few_statements c.args.design.now.models c.args.design.now.plain c.args.design.now.fit c.args.design.now.few)

pub returns-in_err-walked-clause-err : goal.returns-in_err-walked-clause-err
returns-in_err-walked-clause-err c =
    let p = err_from_is_err_and c.from_residual.result c.from_residual.ensures.1 in
    rw (p.1, p.2) (λ ne. subst (λ (ms : List BlifModel). design_walk_fault ms ≡ Some c.in_err-walked.field-0.0) c.as_slice-models.ensures (c.in_err-walked.ensures.err ne))

pub with_ports-requires-clause-kept : goal.with_ports-requires-clause-kept
with_ports-requires-clause-kept c = c.in_ok-walked.ensures.ok.kept

pub with_ports-requires-clause-shaped : goal.with_ports-requires-clause-shaped
with_ports-requires-clause-shaped c =
    let done : Done c.args.design.now.models c.in_ok-walked.walked = done_at c.args.design.now.models c.as_slice-models.result.now c.in_ok-walked.walked c.as_slice-models.ensures c.args.design.now.plain c.args.design.now.fit c.args.design.now.few c.in_ok-walked.ensures.ok in
    done.shaped

pub with_ports-requires-clause-few : goal.with_ports-requires-clause-few
with_ports-requires-clause-few c =
    let done : Done c.args.design.now.models c.in_ok-walked.walked = done_at c.args.design.now.models c.as_slice-models.result.now c.in_ok-walked.walked c.as_slice-models.ensures c.args.design.now.plain c.args.design.now.fit c.args.design.now.few c.in_ok-walked.ensures.ok in
    done.few

pub with_ports-requires-clause-few_places : goal.with_ports-requires-clause-few_places
with_ports-requires-clause-few_places c =
    let done : Done c.args.design.now.models c.in_ok-walked.walked = done_at c.args.design.now.models c.as_slice-models.result.now c.in_ok-walked.walked c.as_slice-models.ensures c.args.design.now.plain c.args.design.now.fit c.args.design.now.few c.in_ok-walked.ensures.ok in
    done.few_places

pub returns-clause-ok : goal.returns-clause-ok
returns-clause-ok c =
    let done : Done c.args.design.now.models c.in_ok-walked.walked = done_at c.args.design.now.models c.as_slice-models.result.now c.in_ok-walked.walked c.as_slice-models.ensures c.args.design.now.plain c.args.design.now.fit c.args.design.now.few c.in_ok-walked.ensures.ok in
    let first : slice_get c.args.design.now.models 0 ≡ Some c.index-models-0.result =
    slice_get_read c.args.design.now.models (length c.args.design.now.models) 0 c.index-models-0.result refl c.args.design.now.some (subst (λ (ms : List BlifModel). c.index-models-0.result ≡ get_or ms 0 c.index-models-0.result) c.as_slice-models.ensures c.index-models-0.is) in
    walked_is c.args.design.now.models c.in_ok-walked.walked c.in_ok-with_ports.field-0 c.index-models-0.result first done c.in_ok-with_ports.ensures

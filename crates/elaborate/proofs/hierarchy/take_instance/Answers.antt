use Rattle.std.proofs.Common.{◌≡◌, ◌+◌, ◌*◌, ℕ, List, map, length, Some, Err, slice_get, get_or, sym, ◌∙◌, ap, subst, subst₂, arith}
use Rattle.std.proofs.lemmas.Option.{slice_get_read}
use Rattle.std.proofs.lemmas.Result.{err_from_is_err_and}
use Rattle.elaborate.specs.declared.tables.Formals.{Formals}
use Rattle.elaborate.specs.Walking.{main_name}
use Rattle.elaborate.specs.State.{Adds, pair_between}
use Rattle.elaborate.proofs.Spelled.{some_at}
use Rattle.elaborate.proofs.Scoped.{instance_taken, instance_refused, instance_too_many}
use Rattle.elaborate.proofs.hierarchy.take_instance.Goals as goal

pub returns-in_err-count-clause-err : goal.returns-in_err-count-clause-err
returns-in_err-count-clause-err c =
    let p = err_from_is_err_and c.from_residual.result c.from_residual.ensures.1 in
    rw (p.1, p.2) (λ ne.
    instance_too_many c.args.models.now (main_name c.args.models.now) c.args.walked.now c.args.outer.now c.args.instance c.args.name.now c.args.pairs.now
    (c.args.walked.now.count + (length c.args.pairs.now + 1)) (c.args.walked.now.places + length c.args.pairs.now * 2) (omega arith) (omega arith) c.in_err-count.ensures.err.0
    ∙ ap Err (sym c.in_err-count.ensures.err.1))

pub returns-in_err-inner-clause-err : goal.returns-in_err-inner-clause-err
returns-in_err-inner-clause-err c =
    let p = err_from_is_err_and c.from_residual-in_err-inner.result c.from_residual-in_err-inner.ensures.1 in
    rw (p.1, p.2) (λ ne.
    instance_refused c.args.models.now (main_name c.args.models.now) c.args.walked.now c.args.outer.now c.args.instance c.args.name.now c.args.pairs.now
    (c.args.walked.now.count + (length c.args.pairs.now + 1)) (c.args.walked.now.places + length c.args.pairs.now * 2) c.in_err-inner.field-0.0 (omega arith) (omega arith) c.in_ok-count.ensures.ok.0 (c.in_err-inner.ensures.err ne))

pub returns-clause-ok : goal.returns-clause-ok
returns-clause-ok c =
    let f : Formals = c.index-as_slice-inner.result in
    let m = some_at c.args.models.now c.in_ok-inner.inner.model c.in_ok-inner.ensures.inside.is_scope.known in
    let formals : slice_get c.args.tables.now.formals.items c.in_ok-inner.inner.model ≡ Some f =
    slice_get_read c.args.tables.now.formals.items (length c.args.models.now) c.in_ok-inner.inner.model f (sym c.requires.tables.as_many) c.in_ok-inner.ensures.inside.is_scope.known
    (subst (λ (fs : List Formals). f ≡ get_or fs c.in_ok-inner.inner.model f) c.as_slice.ensures.value c.index-as_slice-inner.is) in
    let adds : Adds (λ models. map (pair_between f.inputs c.args.outer.now.prefix c.in_ok-inner.inner.prefix) c.args.pairs.now) c.count.new.self c.add_pairs.new.self =
    subst₂ (λ (o i : List ℕ). Adds (λ models. map (pair_between f.inputs o i) c.args.pairs.now) c.count.new.self c.add_pairs.new.self) c.as_slice-2.ensures c.as_slice-3.ensures c.in_ok-add_pairs.ensures in
    instance_taken c.args.models.now (main_name c.args.models.now) c.args.walked.now c.count.new.self c.add_pairs.new.self c.args.outer.now c.in_ok-inner.inner m.0 f c.args.instance c.args.name.now c.args.pairs.now
    (c.args.walked.now.count + (length c.args.pairs.now + 1)) (c.args.walked.now.places + length c.args.pairs.now * 2) (omega arith) (omega arith) c.in_ok-count.ensures.ok.0 c.in_ok-count.ensures.ok.2
    c.in_ok-inner.ensures.ok c.requires.scope c.in_ok-inner.ensures.inside m.1 (c.requires.tables.each c.in_ok-inner.inner.model m.0 f m.1 formals) adds

pub returns-clause-kept : goal.returns-clause-kept
returns-clause-kept c = c.in_ok-add_pairs.ensures.kept

pub returns-clause-inside : goal.returns-clause-inside
returns-clause-inside c = c.in_ok-inner.ensures.inside

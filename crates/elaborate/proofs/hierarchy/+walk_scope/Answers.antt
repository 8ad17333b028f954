use Rattle.std.proofs.Common.{◌≡◌, ◌+◌, ◌-◌, ℕ, List, drop, length, Option, Some, slice_get, get_or, sym, ◌∙◌, ap, ap₂, subst, refl, arith, drop_of_length-le}
use Rattle.std.proofs.lemmas.Option.{slice_get_read, slice_get-get_or}
use Rattle.std.proofs.lemmas.Result.{err_from_is_err_and}
use Rattle.blif_read.specs.declared.design.BlifModel.{BlifModel}
use Rattle.blif_read.specs.declared.design.Statement.{Statement}
use Rattle.blif_read.specs.Kept.{model_names}
use Rattle.blif_read.specs.Design.{Inside, Item, visited, walk}
use Rattle.elaborate.specs.declared.walked.Walked.{Walked}
use Rattle.elaborate.specs.Flat.{statement_in}
use Rattle.elaborate.specs.Walking.{main_name}
use Rattle.elaborate.specs.Steps.{visits}
use Rattle.elaborate.specs.Scopes.{path_of, GoesInside}
use Rattle.elaborate.specs.State.{IsKept, state}
use Rattle.elaborate.proofs.Walks.{visits-nil, below_start, step_plain, step_fault, step_inside, step_inside_fault}
use Rattle.elaborate.proofs.Checked.{rest_at}
use Rattle.elaborate.proofs.hierarchy.+walk_scope.Goals as goal
use Rattle.elaborate.proofs.hierarchy.+walk_scope.Goals.{in-Some+in_ok-walk_scope, in_default}

pub loop-statement-init : goal.loop-statement-init
loop-statement-init t c =
    let models : List BlifModel = c.args.models.now in
    let m : BlifModel = get_or models c.args.scope.now.model c.index-models-scope.result in
    let here : slice_get models c.args.scope.now.model ≡ Some m = slice_get-get_or models c.args.scope.now.model c.index-models-scope.result c.requires.scope.known in
    record {
      kept = c.requires.kept;
      at_is = refl;
      numbered = omega arith;
      rest = ap (visits (main_name models) (state models c.args.walked.now)) (below_start models c.args.scope.now m here c.requires.scope.levels
          ∙ ap (visited (walk (63 - length c.args.scope.now.steps.items) models) models (path_of (model_names models) c.args.scope.now) 0) (sym c.as_slice-statements.ensures));
    }

pub take-requires-clause-here : goal.take-requires-clause-here
take-requires-clause-here t c =
    let models : List BlifModel = c.args.models.now in
    let m : BlifModel = get_or models c.args.scope.now.model c.index-models-scope.result in
    let here : slice_get models c.args.scope.now.model ≡ Some m = slice_get-get_or models c.args.scope.now.model c.index-models-scope.result c.requires.scope.known in
    ap (λ (o : Option BlifModel). statement_in o c.loop-statement.at) here
    ∙ ap₂ (λ (ss : List Statement) (k : ℕ). slice_get ss k) (sym c.as_slice-statements.ensures) c.loop-statement.invariant.at_is
    ∙ slice_get_read c.as_slice-statements.result.now (length c.as_slice-statements.result.now) c.loop-statement.statement-index c.statement-item.result refl c.loop-statement-test.true c.statement-item.is

pub returns-in_err-inside-clause-err : goal.returns-in_err-inside-clause-err
returns-in_err-inside-clause-err t c =
    let p = err_from_is_err_and c.from_residual.result c.from_residual.ensures.1 in
    let models : List BlifModel = c.args.models.now in
    let path : List Inside = path_of (model_names models) c.args.scope.now in
    let within : List Inside → BlifModel → List Item = walk (63 - length c.args.scope.now.steps.items) models in
    let ss : List Statement = c.as_slice-statements.result.now in
    rw (p.1, p.2) (λ ne.
    c.loop-statement.invariant.rest
    ∙ ap (λ (rest : List Statement). visits (main_name models) (state models c.loop-statement.walked) (visited within models path c.loop-statement.instance rest)) (rest_at ss c.loop-statement.statement-index c.statement-item.result c.loop-statement-test.true c.statement-item.is)
    ∙ step_fault models (main_name models) within path c.loop-statement.instance c.statement-item.result (drop (c.loop-statement.statement-index + 1) ss) (state models c.loop-statement.walked) c.in_err-inside.field-0.0 (c.in_err-inside.ensures.err ne))

pub returns-in_err-walk_scope-clause-err : goal.returns-in_err-walk_scope-clause-err
returns-in_err-walk_scope-clause-err t c =
    let p = err_from_is_err_and c.from_residual-in_err-walk_scope.result c.from_residual-in_err-walk_scope.ensures.1 in
    let models : List BlifModel = c.args.models.now in
    let path : List Inside = path_of (model_names models) c.args.scope.now in
    let within : List Inside → BlifModel → List Item = walk (63 - length c.args.scope.now.steps.items) models in
    let ss : List Statement = c.as_slice-statements.result.now in
    rw (p.1, p.2) (λ ne.
    c.loop-statement.invariant.rest
    ∙ ap (λ (rest : List Statement). visits (main_name models) (state models c.loop-statement.walked) (visited within models path c.loop-statement.instance rest)) (rest_at ss c.loop-statement.statement-index c.statement-item.result c.loop-statement-test.true c.statement-item.is)
    ∙ step_inside_fault models (main_name models) c.args.scope.now c.in-Some.inner c.loop-statement.instance c.statement-item.result (drop (c.loop-statement.statement-index + 1) ss) (state models c.loop-statement.walked) (state models c.take.new.walked)
    c.in_err-walk_scope.field-0.0 (subst (GoesInside models c.args.scope.now c.loop-statement.instance c.statement-item.result) c.in-Some.is c.in_ok-inside.ensures.inside) c.in_ok-inside.ensures.ok (c.in_err-walk_scope.ensures.err ne))

pub loop-statement-preserved : goal.loop-statement-preserved
loop-statement-preserved t c =
    let models : List BlifModel = c.args.models.now in
    let i : ℕ = c.loop-statement.statement-index in
    let path : List Inside = path_of (model_names models) c.args.scope.now in
    let within : List Inside → BlifModel → List Item = walk (63 - length c.args.scope.now.steps.items) models in
    let ss : List Statement = c.as_slice-statements.result.now in
    let begun = c.loop-statement.invariant.rest
    ∙ ap (λ (rest : List Statement). visits (main_name models) (state models c.loop-statement.walked) (visited within models path c.loop-statement.instance rest)) (rest_at ss i c.statement-item.result c.loop-statement-test.true c.statement-item.is) in
    elim c.match-inside.branch [
      | in-Some+in_ok-walk_scope w ↦ record {
        kept = subst IsKept (sym w.walked-is) w.in_ok-walk_scope.ensures.kept;
        at_is = ap (λ (n : ℕ). n + 1) c.loop-statement.invariant.at_is;
        numbered = omega (arith, w.instance-is, c.loop-statement.invariant.numbered);
        rest = begun
            ∙ step_inside models (main_name models) c.args.scope.now w.in-Some.inner c.loop-statement.instance c.statement-item.result (drop (i + 1) ss) (state models c.loop-statement.walked) (state models c.take.new.walked) (state models w.walk_scope.new.walked)
            (subst (GoesInside models c.args.scope.now c.loop-statement.instance c.statement-item.result) w.in-Some.is c.in_ok-inside.ensures.inside) c.in_ok-inside.ensures.ok w.in_ok-walk_scope.ensures.ok
            ∙ ap₂ (λ (x : Walked) (k : ℕ). visits (main_name models) (state models x) (visited within models path k (drop (i + 1) ss))) (sym w.walked-is) (sym w.instance-is);
      }
      | in_default w ↦ record {
        kept = subst IsKept (sym w.walked-is) c.in_ok-inside.ensures.kept;
        at_is = ap (λ (n : ℕ). n + 1) c.loop-statement.invariant.at_is;
        numbered = omega (arith, w.instance-is, c.loop-statement.invariant.numbered);
        rest = begun
            ∙ step_plain models (main_name models) c.args.scope.now within path c.loop-statement.instance c.statement-item.result (drop (i + 1) ss) (state models c.loop-statement.walked) (state models c.take.new.walked)
            (subst (GoesInside models c.args.scope.now c.loop-statement.instance c.statement-item.result) w.in_default.is c.in_ok-inside.ensures.inside) c.in_ok-inside.ensures.ok
            ∙ ap₂ (λ (x : Walked) (k : ℕ). visits (main_name models) (state models x) (visited within models path k (drop (i + 1) ss))) (sym w.walked-is) (sym w.instance-is);
      }
    ]

pub returns-clause-ok : goal.returns-clause-ok
returns-clause-ok t c =
    let models : List BlifModel = c.args.models.now in
    let path : List Inside = path_of (model_names models) c.args.scope.now in
    c.loop-statement.invariant.rest
    ∙ ap (λ (rest : List Statement). visits (main_name models) (state models c.loop-statement.walked) (visited (walk (63 - length c.args.scope.now.steps.items) models) models path c.loop-statement.instance rest))
    (drop_of_length-le c.as_slice-statements.result.now c.loop-statement-test.false)
    ∙ visits-nil (main_name models) (state models c.loop-statement.walked)

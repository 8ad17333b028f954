use Rattle.std.proofs.Common.{◌≡◌, ◌<◌, ℕ, List, Bool, length, Some, slice_get, sym, ◌∙◌, ap, subst, refl, get_or, arith}
use Rattle.std.specs.List.{list_any}
use Rattle.std.proofs.lemmas.Bool.{or_left, or_right, or_from}
use Rattle.std.proofs.lemmas.Option.{slice_get_read}
use Rattle.std.proofs.lemmas.Result.{err_from_is_err_and}
use Rattle.blif_read.specs.declared.design.BlifModel.{BlifModel}
use Rattle.blif_read.specs.declared.design.Pair.{Pair}
use Rattle.blif_read.specs.Design.{model_named}
use Rattle.elaborate.specs.declared.error.FlatError.TheVariants as flat_error
use Rattle.elaborate.specs.declared.tables.Formals.{Formals}
use Rattle.elaborate.specs.Walking.{main_name, when}
use Rattle.elaborate.specs.Scopes.{is_long_behind, exceeds, IsInside}
use Rattle.elaborate.proofs.Tabled.{model_within}
use Rattle.elaborate.proofs.Scoped.{inside_made, entered_is, entry_refused, ports_refused}
use Rattle.elaborate.proofs.checks.entered.Goals as goal
use Rattle.elaborate.proofs.checks.entered.Goals.{then-actuals_are_long-via-then-actuals_are_long, then-actuals_are_long-via-else-actuals_are_long+then-exceed}

pub check_ports-requires : goal.check_ports-requires
check_ports-requires c =
    let within : c.in_ok-model.model < length c.args.models.now = model_within c.args.models.now c.in_ok-model.model c.args.name.now c.in_ok-model.ensures.named in
    let m : BlifModel = c.index-models-model.result in
    let f : Formals = c.index-as_slice-model.result in
    let here : slice_get c.args.models.now c.in_ok-model.model ≡ Some m = slice_get_read c.args.models.now (length c.args.models.now) c.in_ok-model.model m refl within c.index-models-model.is in
    let formals : slice_get c.args.tables.now.formals.items c.in_ok-model.model ≡ Some f = slice_get_read c.args.tables.now.formals.items (length c.args.models.now) c.in_ok-model.model f (sym c.requires.tables.as_many) within
    (subst (λ (fs : List Formals). f ≡ get_or fs c.in_ok-model.model f) c.as_slice.ensures.value c.index-as_slice-model.is) in
    c.requires.tables.each c.in_ok-model.model m f here formals

pub returns-in_err-model-clause-err : goal.returns-in_err-model-clause-err
returns-in_err-model-clause-err c =
    let p = err_from_is_err_and c.from_residual.result c.from_residual.ensures.1 in
    rw (p.1, p.2) (λ ne. entry_refused (main_name c.args.models.now) _ _ (model_named c.args.models.now c.args.name.now) c.args.name.now c.args.pairs.now c.in_err-model.field-0.0 (c.in_err-model.ensures.err ne))

pub returns-in_err-check_ports-clause-err : goal.returns-in_err-check_ports-clause-err
returns-in_err-check_ports-clause-err c =
    let p = err_from_is_err_and c.from_residual-in_err-check_ports.result c.from_residual-in_err-check_ports.ensures.1 in
    let within : c.in_ok-model.model < length c.args.models.now = model_within c.args.models.now c.in_ok-model.model c.args.name.now c.in_ok-model.ensures.named in
    let m : BlifModel = c.index-models-model.result in
    let here : slice_get c.args.models.now c.in_ok-model.model ≡ Some m = slice_get_read c.args.models.now (length c.args.models.now) c.in_ok-model.model m refl within c.index-models-model.is in
    rw (p.1, p.2) (λ ne. ports_refused (main_name c.args.models.now) _ _ (model_named c.args.models.now c.args.name.now) m c.args.name.now c.args.pairs.now c.in_err-check_ports.field-0.0 c.in_ok-model.ensures.ok.1
    (c.in_ok-model.ensures.ok.0 ∙ here) (c.in_err-check_ports.ensures.err ne))

pub returns-then-actuals_are_long-clause-err : goal.returns-then-actuals_are_long-clause-err
returns-then-actuals_are_long-clause-err c = λ ne.
    let within : c.in_ok-model.model < length c.args.models.now = model_within c.args.models.now c.in_ok-model.model c.args.name.now c.in_ok-model.ensures.named in
    let m : BlifModel = c.index-models-model.result in
    let f : Formals = c.index-as_slice-model.result in
    let here : slice_get c.args.models.now c.in_ok-model.model ≡ Some m = slice_get_read c.args.models.now (length c.args.models.now) c.in_ok-model.model m refl within c.index-models-model.is in
    let formals : slice_get c.args.tables.now.formals.items c.in_ok-model.model ≡ Some f = slice_get_read c.args.tables.now.formals.items (length c.args.models.now) c.in_ok-model.model f (sym c.requires.tables.as_many) within
    (subst (λ (fs : List Formals). f ≡ get_or fs c.in_ok-model.model f) c.as_slice.ensures.value c.index-as_slice-model.is) in
    let inside : IsInside c.args.models.now c.args.outer.now c.args.instance c.args.name.now c.in_ok-inner.inner =
    inside_made c.args.models.now c.args.outer.now c.in_ok-inner.inner c.in_ok-model.model c.args.instance c.args.name.now c.requires.scope c.in_ok-model.ensures.named c.in_ok-model.ensures.ok.0 within c.in_ok-model.ensures.room
    c.in_ok-inner.ensures.steps c.in_ok-inner.ensures.model c.in_ok-inner.ensures.prefix in
    entered_is c.args.models.now (main_name c.args.models.now) c.args.outer.now c.in_ok-inner.inner c.args.instance c.args.name.now c.args.pairs.now m f c.requires.scope c.in_ok-model.ensures.ok.1 (c.in_ok-model.ensures.ok.0 ∙ here)
    (c.requires.tables.each c.in_ok-model.model m f here formals) c.in_ok-check_ports.ensures.ok inside
    ∙ ap (λ (b : Bool). when b flat_error.LongName) (elim c.then-actuals_are_long.branch [
      | then-actuals_are_long-via-then-actuals_are_long w ↦ or_left (list_any (λ (p : Pair). is_long_behind (length c.args.outer.now.prefix) p.actual) c.args.pairs.now) (exceeds (length c.in_ok-inner.inner.prefix) f.room)
          (ap (λ (n : ℕ). list_any (λ (p : Pair). is_long_behind n p.actual) c.args.pairs.now) (sym c.len.ensures) ∙ sym w.if-actuals_are_long.ensures)
      | then-actuals_are_long-via-else-actuals_are_long+then-exceed w ↦ or_right (list_any (λ (p : Pair). is_long_behind (length c.args.outer.now.prefix) p.actual) c.args.pairs.now) (exceeds (length c.in_ok-inner.inner.prefix) f.room)
          (ap (λ (n : ℕ). exceeds n f.room) (sym w.len-else-actuals_are_long.ensures) ∙ sym w.if-exceed.ensures)
    ])

pub returns-clause-inside : goal.returns-clause-inside
returns-clause-inside c =
    inside_made c.args.models.now c.args.outer.now c.in_ok-inner.inner c.in_ok-model.model c.args.instance c.args.name.now c.requires.scope c.in_ok-model.ensures.named c.in_ok-model.ensures.ok.0
    (model_within c.args.models.now c.in_ok-model.model c.args.name.now c.in_ok-model.ensures.named) c.in_ok-model.ensures.room c.in_ok-inner.ensures.steps c.in_ok-inner.ensures.model c.in_ok-inner.ensures.prefix

pub returns-clause-ok : goal.returns-clause-ok
returns-clause-ok c =
    let within : c.in_ok-model.model < length c.args.models.now = model_within c.args.models.now c.in_ok-model.model c.args.name.now c.in_ok-model.ensures.named in
    let m : BlifModel = c.index-models-model.result in
    let f : Formals = c.index-as_slice-model.result in
    let here : slice_get c.args.models.now c.in_ok-model.model ≡ Some m = slice_get_read c.args.models.now (length c.args.models.now) c.in_ok-model.model m refl within c.index-models-model.is in
    let formals : slice_get c.args.tables.now.formals.items c.in_ok-model.model ≡ Some f = slice_get_read c.args.tables.now.formals.items (length c.args.models.now) c.in_ok-model.model f (sym c.requires.tables.as_many) within
    (subst (λ (fs : List Formals). f ≡ get_or fs c.in_ok-model.model f) c.as_slice.ensures.value c.index-as_slice-model.is) in
    let inside : IsInside c.args.models.now c.args.outer.now c.args.instance c.args.name.now c.in_ok-inner.inner =
    inside_made c.args.models.now c.args.outer.now c.in_ok-inner.inner c.in_ok-model.model c.args.instance c.args.name.now c.requires.scope c.in_ok-model.ensures.named c.in_ok-model.ensures.ok.0 within c.in_ok-model.ensures.room
    c.in_ok-inner.ensures.steps c.in_ok-inner.ensures.model c.in_ok-inner.ensures.prefix in
    entered_is c.args.models.now (main_name c.args.models.now) c.args.outer.now c.in_ok-inner.inner c.args.instance c.args.name.now c.args.pairs.now m f c.requires.scope c.in_ok-model.ensures.ok.1 (c.in_ok-model.ensures.ok.0 ∙ here)
    (c.requires.tables.each c.in_ok-model.model m f here formals) c.in_ok-check_ports.ensures.ok inside
    ∙ ap (λ (b : Bool). when b flat_error.LongName)
    (or_from (list_any (λ (p : Pair). is_long_behind (length c.args.outer.now.prefix) p.actual) c.args.pairs.now) (exceeds (length c.in_ok-inner.inner.prefix) f.room)
    (ap (λ (n : ℕ). list_any (λ (p : Pair). is_long_behind n p.actual) c.args.pairs.now) (sym c.len.ensures) ∙ sym c.if-actuals_are_long.ensures)
    (ap (λ (n : ℕ). exceeds n f.room) (sym c.len-else-actuals_are_long.ensures) ∙ sym c.if-exceed.ensures))

pub bounds-models-model : goal.bounds-models-model
bounds-models-model c = model_within c.args.models.now c.in_ok-model.model c.args.name.now c.in_ok-model.ensures.named

pub bounds-as_slice-model : goal.bounds-as_slice-model
bounds-as_slice-model c =
    let within : c.in_ok-model.model < length c.args.models.now = model_within c.args.models.now c.in_ok-model.model c.args.name.now c.in_ok-model.ensures.named in
    omega (arith, within, c.requires.tables.as_many, ap length c.as_slice.ensures.value)

use Rattle.std.proofs.Common.{◌≡◌, ◌<◌, ◌≤◌, ℕ, List, Option, Some, slice_get, sym, ◌∙◌, ap, subst, length}
use Rattle.base_tables.specs.Table.{is_among, AreDistinct}
use Rattle.blif_read.specs.declared.design.BlifModel.{BlifModel}
use Rattle.blif_read.specs.Kept.{model_names}
use Rattle.elaborate.specs.declared.error.FlatError.TheVariants as flat_error
use Rattle.elaborate.specs.Walking.{entry_fault, main_name}
use Rattle.elaborate.specs.Scopes.{path_of}
use Rattle.elaborate.proofs.Tabled.{no_model, found_model, enters, enters_again, enters_deep}
use Rattle.elaborate.proofs.checks.model_to_enter.Goals as goal

pub returns-in_default-clause-err : goal.returns-in_default-clause-err
returns-in_default-clause-err c = λ ne.
    ap (λ (o : Option BlifModel). entry_fault (main_name c.args.models.now) (path_of (model_names c.args.models.now) c.args.outer.now) o c.args.name.now)
    (no_model c.args.models.now c.args.name.now (ap (λ (ns : List (List ℕ)). is_among ns c.args.name.now) (sym c.requires.tables.names) ∙ sym c.in_default.ensures.found))
    ∙ ap (λ (w : List ℕ). Some (flat_error.UnknownModel w)) (sym c.in_ok-word.ensures)

pub returns-then-is_on_path-clause-err : goal.returns-then-is_on_path-clause-err
returns-then-is_on_path-clause-err c = λ ne.
    enters_again c.args.models.now c.args.outer.now c.in-Some.model c.args.name.now (subst AreDistinct c.requires.tables.names c.keeps.ensures)
    (subst (λ (ns : List (List ℕ)). slice_get ns c.in-Some.model ≡ Some c.args.name.now) c.requires.tables.names c.in-Some.ensures.here) c.requires.scope (sym c.if-is_on_path.ensures)
    ∙ ap (λ (w : List ℕ). Some (flat_error.Recursive w)) (sym c.in_ok-word-2.ensures)

pub returns-then-as_slice-ge-STEPS-clause-err : goal.returns-then-as_slice-ge-STEPS-clause-err
returns-then-as_slice-ge-STEPS-clause-err c = λ ne.
    enters_deep c.args.models.now c.args.outer.now c.in-Some.model c.args.name.now (subst AreDistinct c.requires.tables.names c.keeps.ensures)
    (subst (λ (ns : List (List ℕ)). slice_get ns c.in-Some.model ≡ Some c.args.name.now) c.requires.tables.names c.in-Some.ensures.here) c.requires.scope (sym c.if-is_on_path.ensures)
    (subst (λ (n : ℕ). 63 ≤ n) (ap length c.as_slice.ensures.value) c.if-as_slice-ge-STEPS.true)
    ∙ ap (λ (w : List ℕ). Some (flat_error.TooDeep w)) (sym c.in_ok-word-3.ensures)

pub returns-clause-ok : goal.returns-clause-ok
returns-clause-ok c =
    let distinct : AreDistinct (model_names c.args.models.now) = subst AreDistinct c.requires.tables.names c.keeps.ensures in
    let here : slice_get (model_names c.args.models.now) c.in-Some.model ≡ Some c.args.name.now = subst (λ (ns : List (List ℕ)). slice_get ns c.in-Some.model ≡ Some c.args.name.now) c.requires.tables.names c.in-Some.ensures.here in (
      found_model c.args.models.now c.args.name.now c.in-Some.model distinct here,
      enters c.args.models.now c.args.outer.now c.in-Some.model c.args.name.now distinct here c.requires.scope (sym c.if-is_on_path.ensures) (subst (λ (n : ℕ). n < 63) (ap length c.as_slice.ensures.value) c.if-as_slice-ge-STEPS.false),
    )

use Rattle.std.proofs.Common.{List, ℕ, sym, ◌∙◌, ap}
use Rattle.std.proofs.lemmas.Result.{err_from_is_err_and, on_ok_weaker, IfErr-weaker}
use Rattle.elaborate.specs.declared.error.FlatError.TheVariants as flat_error
use Rattle.elaborate.specs.Walking.{named_fault, first_outside}
use Rattle.elaborate.proofs.Checked.{ports_pairs, ports_input, ports_clocks}
use Rattle.elaborate.proofs.checks.check_ports.Goals as goal

pub returns-in_err-seen-clause-err : goal.returns-in_err-seen-clause-err
returns-in_err-seen-clause-err c =
    let p = err_from_is_err_and c.from_residual.result c.from_residual.ensures.1 in
    rw (p.1, p.2) (λ ne. ports_pairs c.args.model.now c.args.formals.now c.args.pairs.now c.in_err-seen.field-0.0 c.requires (c.in_err-seen.ensures.err ne))

pub returns-in_err-check_open-clause-err : goal.returns-in_err-check_open-clause-err
returns-in_err-check_open-clause-err c =
    let p = err_from_is_err_and c.from_residual-in_err-check_open.result c.from_residual-in_err-check_open.ensures.1 in
    rw (p.1, p.2) (λ ne.
    ports_input c.args.model.now c.args.formals.now c.args.pairs.now c.in_ok-seen.seen c.in_err-check_open.field-0.0 c.requires c.in_ok-seen.ensures.ok.0 c.in_ok-seen.ensures.ok.1
    (ap (λ (ns : List (List ℕ)). named_fault flat_error.OpenInput (first_outside c.in_ok-seen.seen ns)) (sym c.as_slice.ensures) ∙ c.in_err-check_open.ensures.err ne))

pub returns-clause-err : goal.returns-clause-err
returns-clause-err c =
    IfErr-weaker c.check_open-2.result _ _
    (λ e at ne.
    ports_clocks c.args.model.now c.args.formals.now c.args.pairs.now c.in_ok-seen.seen c.requires c.in_ok-seen.ensures.ok.0 c.in_ok-seen.ensures.ok.1 (ap (first_outside c.in_ok-seen.seen) (sym c.as_slice.ensures) ∙ c.in_ok-check_open.ensures.ok)
    ∙ ap (λ (ns : List (List ℕ)). named_fault flat_error.OpenInput (first_outside c.in_ok-seen.seen ns)) (sym c.as_slice-2.ensures) ∙ at ne) c.check_open-2.ensures.err

pub returns-clause-ok : goal.returns-clause-ok
returns-clause-ok c =
    on_ok_weaker c.check_open-2.result
    (λ is.
    ports_clocks c.args.model.now c.args.formals.now c.args.pairs.now c.in_ok-seen.seen c.requires c.in_ok-seen.ensures.ok.0 c.in_ok-seen.ensures.ok.1 (ap (first_outside c.in_ok-seen.seen) (sym c.as_slice.ensures) ∙ c.in_ok-check_open.ensures.ok)
    ∙ ap (λ (ns : List (List ℕ)). named_fault flat_error.OpenInput (first_outside c.in_ok-seen.seen ns)) (sym c.as_slice-2.ensures)
    ∙ ap (named_fault flat_error.OpenInput) is) c.check_open-2.ensures.ok

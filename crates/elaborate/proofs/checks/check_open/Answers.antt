use Rattle.std.proofs.Common.{Bool, List, ℕ, not, sym, ◌∙◌, ap, Some}
use Rattle.base_tables.specs.Table.{is_among}
use Rattle.elaborate.specs.declared.error.FlatError.TheVariants.{OpenInput}
use Rattle.elaborate.specs.Walking.{named_fault}
use Rattle.elaborate.proofs.Passed.{not_found, found}
use Rattle.elaborate.proofs.checks.check_open.Goals as goal

pub loop-name-preserved : goal.loop-name-preserved
loop-name-preserved c =
    let outside : List ℕ → Bool = λ name. not (is_among c.args.seen.now name) in
    not_found outside _ c.args.names.now c.loop-name.name-index c.name-item.result c.loop-name.invariant c.name-item.is c.loop-name-test.true (ap outside (sym c.as_slice.ensures) ∙ ap not (sym c.if-not-has.ensures))

pub returns-then-not-has-clause-err : goal.returns-then-not-has-clause-err
returns-then-not-has-clause-err c = λ _.
    let outside : List ℕ → Bool = λ name. not (is_among c.args.seen.now name) in
    ap (named_fault OpenInput) (found outside _ c.args.names.now c.loop-name.name-index c.name-item.result c.loop-name.invariant c.name-item.is c.loop-name-test.true (ap outside (sym c.as_slice.ensures) ∙ ap not (sym c.if-not-has.ensures)))
    ∙ ap (λ (n : List ℕ). Some (OpenInput n)) (sym (c.in_ok-word.ensures ∙ c.as_slice-then-not-has.ensures))

use Rattle.std.proofs.Common.{ℕ, List, ◌∷◌, [], ◌++◌, Some, sym, ◌∙◌, ap, subst, refl}
use Rattle.std.proofs.lemmas.Result.{on_ok_weaker}
use Rattle.base_tables.specs.Table.{is_among}
use Rattle.elaborate.specs.declared.walked.Walked.{Walked}
use Rattle.elaborate.specs.State.{Adds, pair_between}
use Rattle.elaborate.proofs.Spelled.{input_added, output_added}
use Rattle.elaborate.proofs.walked.Walked.add_pair.Goals as goal

pub returns-then-has : goal.returns-then-has
returns-then-has c =
    on_ok_weaker c.add_statement.result (λ is.
    subst (λ (w : Walked). Adds (λ models. pair_between c.args.inputs.now c.args.outer.now c.args.inner.now c.args.pair.now ∷ []) c.args.self.now w) (sym is)
    (input_added c.args.self.now _ c.number.new.table c.args.inputs.now c.args.outer.now c.args.inner.now c.args.pair.now c.in_ok-actual.actual c.in_ok-formal.formal c.requires c.in_ok-actual.ensures.keeps
    (c.in_ok-actual.ensures.named ∙ ap (λ (n : List ℕ). Some (c.args.outer.now ++ n)) c.as_slice.ensures) c.in_ok-formal.ensures.keeps (c.in_ok-formal.ensures.named ∙ ap (λ (n : List ℕ). Some (c.args.inner.now ++ n)) c.as_slice-2.ensures)
    (ap (is_among c.args.inputs.now) (sym c.as_slice-3.ensures) ∙ sym c.if-has.ensures) refl refl refl)) c.add_statement.ensures

pub returns-else-has : goal.returns-else-has
returns-else-has c =
    on_ok_weaker c.add_statement-else-has.result (λ is.
    subst (λ (w : Walked). Adds (λ models. pair_between c.args.inputs.now c.args.outer.now c.args.inner.now c.args.pair.now ∷ []) c.args.self.now w) (sym is)
    (output_added c.args.self.now _ c.number.new.table c.args.inputs.now c.args.outer.now c.args.inner.now c.args.pair.now c.in_ok-actual.actual c.in_ok-formal.formal c.requires c.in_ok-actual.ensures.keeps
    (c.in_ok-actual.ensures.named ∙ ap (λ (n : List ℕ). Some (c.args.outer.now ++ n)) c.as_slice.ensures) c.in_ok-formal.ensures.keeps (c.in_ok-formal.ensures.named ∙ ap (λ (n : List ℕ). Some (c.args.inner.now ++ n)) c.as_slice-2.ensures)
    (ap (is_among c.args.inputs.now) (sym c.as_slice-3.ensures) ∙ sym c.if-has.ensures) refl refl refl)) c.add_statement-else-has.ensures

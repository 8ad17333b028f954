-- The outcome by the pairs, or why they can't be unfolded.
use Rattle.std.proofs.Common.{◌∙◌, ℕ, List, None, refl, sym, ap, subst, Ok}
use Rattle.plain_check.proofs.under_base.compare_base.Refusals.{refused_by}
use Rattle.event_check.specs.event_answers.Settles.{SettlesInEvents}
use Rattle.event_check.specs.declared.event_answers.outcomes.Settled.{Settled}
use Rattle.event_check.proofs.event_answers.Told.{told_settled, settled_by}
use Rattle.event_check.proofs.event_answers.Refusals.{pairs_refused}
use Rattle.event_check.proofs.Answering.{cares_found, pairs_compared}
use Rattle.event_check.proofs.comparison.compare_classed.Goals as goal

pub compare_pairs-requires-clause-counted : goal.compare_pairs-requires-clause-counted
compare_pairs-requires-clause-counted c = c.requires.classed.counted

pub compare_pairs-requires-clause-separated : goal.compare_pairs-requires-clause-separated
compare_pairs-requires-clause-separated c = c.requires.classed.separated

pub compare_pairs-requires-clause-askable : goal.compare_pairs-requires-clause-askable
compare_pairs-requires-clause-askable c = c.requires.classed.askable

pub returns-in_err-found : goal.returns-in_err-found
returns-in_err-found c =
    let a = c.args.a.now in
    let b = c.args.b.now in
    let x = c.args.classed.now in
    let is = c.requires.classed in
    refused_by (SettlesInEvents c.args.settles a b c.args.settings.now) c.from_residual.result c.in_err-found.field-0.0 c.from_residual.ensures.1
    (pairs_refused a b c.args.settings.now c.requires.matches x.exposed x.separated.events.left x.separated.events.right is.reached x.asked.pairs is.listed c.in_err-found.field-0.0 c.in_err-found.ensures)

pub returns : goal.returns
returns c =
    let a = c.args.a.now in
    let b = c.args.b.now in
    let x = c.args.classed.now in
    let f = c.in_ok-found.found in
    let is = told_settled a b c.args.inputs None c.replace-exposed.result f f c.outcome_of.result c.outcome_of.ensures c.requires.inputs refl in
    let same = is ∙ ap (λ (names : List (List ℕ)). settled_by a b None names f) c.replace-exposed.ensures.value in
    subst (λ (y : Settled). SettlesInEvents c.args.settles a b c.args.settings.now (Ok y)) (sym same) (
      pairs_compared a b c.args.settings.now c.keeps.ensures.sound c.keeps-2.ensures.sound c.requires.left c.requires.right c.requires.matches x c.requires.classed c.args.settles f c.in_ok-found.ensures,
      cares_found a b c.args.settings.now c.keeps.ensures.sound c.keeps-2.ensures.sound c.requires.left c.requires.right c.requires.matches x c.requires.classed c.args.settles f c.in_ok-found.ensures,
    )

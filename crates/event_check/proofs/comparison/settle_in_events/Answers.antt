-- Interfaces that don't match, what is refused before the pairs, and the limit of an enable or of a class.
use Rattle.std.proofs.Common.{◌≡◌, ◌∙◌, None, sym, ap, subst, length, Ok}
use Rattle.plain_check.specs.under_base.compare_base.Compared.{refusal_of}
use Rattle.plain_check.proofs.under_base.compare_base.Refusals.{refused_by}
use Rattle.event_check.specs.event_answers.Settles.{SettlesInEvents}
use Rattle.event_check.specs.declared.event_answers.outcomes.Settled.{Settled}
use Rattle.event_check.specs.event_answers.Reached.{ReachesPairs}
use Rattle.event_check.specs.declared.event_answers.reaching.Reached.{Reached}
use Rattle.event_check.proofs.event_answers.Told.{limit_at, settled_by, told_settled}
use Rattle.event_check.proofs.Answering.{limit_compared, no_cares, unmatched}
use Rattle.event_check.proofs.comparison.settle_in_events.Goals as goal

pub returns-in_err-shared : goal.returns-in_err-shared
returns-in_err-shared c =
    refused_by (SettlesInEvents c.args.settles c.args.a.now c.args.b.now c.args.settings.now) c.from_residual.result (refusal_of c.in_err-shared.field-0.0) c.from_residual.ensures.1
    (unmatched c.args.a.now c.args.b.now c.args.settings.now c.in_err-shared.field-0.0 c.in_err-shared.ensures.err)

pub compare_classed-requires-clause-classed : goal.compare_classed-requires-clause-classed
compare_classed-requires-clause-classed c = subst (λ (r : Reached). ReachesPairs c.args.a.now c.args.b.now c.args.settings.now (Ok r)) c.in-Pairs.is c.in_ok-classed.ensures

pub returns : goal.returns
returns c =
    let a = c.args.a.now in
    let b = c.args.b.now in
    let s = c.args.settings.now in
    let matches = c.in_ok-shared.ensures.ok.0 in
    let stops = subst (λ (r : Reached). ReachesPairs a b s (Ok r)) c.in-Limit.is c.in_ok-classed.ensures in
    let many = c.len-in-Limit.ensures ∙ ap length c.in_ok-shared.ensures.ok.1 in
    let at = limit_at c.in-Limit.at in
    let is : c.outcome_of.result ≡ settled_by a b None c.in-Limit.exposed at =
    told_settled a b c.len-in-Limit.result None c.in-Limit.exposed c.limit_found-found.result at c.outcome_of.result c.outcome_of.ensures many c.limit_found-found.ensures in
    subst (λ (x : Settled). SettlesInEvents c.args.settles a b s (Ok x)) (sym is) (
      limit_compared a b s c.keeps.ensures.sound c.keeps-2.ensures.sound c.requires.left c.requires.right matches c.in-Limit.exposed c.in-Limit.at stops,
      λ asks. no_cares a b s c.keeps.ensures.sound c.keeps-2.ensures.sound c.requires.left c.requires.right matches c.in-Limit.exposed c.in-Limit.at stops,
    )

-- Interfaces that don't match, what is taken, and the outcome where that wasn't decided.
use Rattle.std.proofs.Common.{◌∙◌, ℕ, List, length, refl, sym, ap, subst, arith, Some, Ok, Err, inl}
use Rattle.sec_setup.proofs.ports.Numbering.{few_shared}
use Rattle.obligations.specs.declared.outcome.verdict.LimitAt.TheVariants as limit_at
use Rattle.assume_queries.specs.assume_sequences.assume_taken.Premises.{IsTaken}
use Rattle.event_setup.specs.event_meaning.event_meaning_under.Taken.{IsUndecidedBy}
use Rattle.event_setup.specs.event_meaning.event_meaning_under.CompareError.{CompareError}
use Rattle.plain_check.specs.under_base.compare_base.Compared.{refusal_of}
use Rattle.plain_check.proofs.under_base.compare_base.Refusals.{refused_by}
use Rattle.event_check.proofs.event_answers.Told.{told_settled, settled_by, limit_at as found_limit}
use Rattle.event_check.specs.event_check_under.Settles.{SettlesInEventsUnder}
use Rattle.event_check.specs.declared.event_answers.outcomes.Settled.{Settled}
use Rattle.event_check.proofs.event_check_under.event_answers_under.Answering.{assumption_limit}
use Rattle.event_check.proofs.event_check_under.event_answers_under.Refusals.{unmatched_under, untaken_under}
use Rattle.event_check.proofs.event_check_under.comparison.settle_in_events_under.Goals as goal

pub returns-in_err-shared : goal.returns-in_err-shared
returns-in_err-shared c =
    refused_by (SettlesInEventsUnder c.args.settles c.args.a.now c.args.b.now c.args.c.now c.args.settings.now) c.from_residual.result (refusal_of c.in_err-shared.field-0.0) c.from_residual.ensures.1
    (unmatched_under c.args.a.now c.args.b.now c.args.c.now c.args.settings.now c.in_err-shared.field-0.0 c.in_err-shared.ensures.err)

pub take-requires-clause-few : goal.take-requires-clause-few
take-requires-clause-few c =
    let shared = few_shared c.args.a.now c.args.b.now c.in_ok-shared.shared c.in_ok-shared.ensures.ok.1 in
    let left = c.requires.left.few in
    let assumed = c.requires.assumed.few in
    omega (arith, shared, left, assumed)

pub returns-in-Ok-Limit : goal.returns-in-Ok-Limit
returns-in-Ok-Limit c =
    let a = c.args.a.now in
    let b = c.args.b.now in
    let s = c.args.settings.now in
    let shared = c.in_ok-shared.ensures.ok in
    let proof = c.in-Ok-Limit.proof in
    let own : IsUndecidedBy c.in_ok-shared.shared c.args.c.now s.conflicts proof = rw c.in-Ok-Limit.field-0-is at c.in-Ok-Limit.ensures in
    let limit = subst (λ (names : List (List ℕ)). IsUndecidedBy names c.args.c.now s.conflicts proof) shared.1 own in
    let shape = limit.assumed.shape in
    let found = found_limit (limit_at.Assume proof) in
    let is =
    told_settled a b (length c.in_ok-shared.shared) (Some shape.output.name) c.new.result c.limit_found-found.result found c.in_ok-outcome_under-in-Ok-Limit.field-0
    (c.in_ok-outcome_under-in-Ok-Limit.ensures shape.output shape.outputs) (ap length shared.1) c.limit_found-found.ensures
    in
    let same = is ∙ ap (λ (names : List (List ℕ)). settled_by a b (Some shape.output.name) names found) c.new.ensures in
    subst (λ (x : Settled). SettlesInEventsUnder c.args.settles a b c.args.c.now s (Ok x)) (sym same) (
      inl (assumption_limit a b c.args.c.now s c.keeps.ensures.sound c.keeps-2.ensures.sound c.requires.left c.requires.right shared.0 proof limit),
      λ asks. inl (refl, refl),
    )

pub returns : goal.returns
returns c =
    let x = c.in_ok-shared.shared in
    subst (λ (e : CompareError). SettlesInEventsUnder c.args.settles c.args.a.now c.args.b.now c.args.c.now c.args.settings.now (Err e)) (sym c.refusal_of.ensures)
    (untaken_under c.args.a.now c.args.b.now c.args.c.now c.args.settings.now c.in-Err.error c.in_ok-shared.ensures.ok.0
    (subst (λ (names : List (List ℕ)). IsTaken names c.args.c.now c.args.settings.now.conflicts (Err c.in-Err.error)) c.in_ok-shared.ensures.ok.1 c.in-Err.ensures))

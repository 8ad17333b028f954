-- Enables that aren't known.
use Rattle.std.proofs.Common.{List, ℕ, sym, subst}
use Rattle.plain_check.proofs.under_base.compare_base.Refusals.{refused_by}
use Rattle.event_check.specs.event_answers.Reached.{ReachesPairs, StopsAtLimit}
use Rattle.event_check.proofs.event_answers.Stopping.{unknown_stops}
use Rattle.event_check.proofs.event_answers.Refusals.{unknown_refused}
use Rattle.event_check.proofs.event_answers.reaching.reach_pairs.Goals as goal

pub returns-in_err-at-in-Err : goal.returns-in_err-at-in-Err
returns-in_err-at-in-Err c =
    refused_by (ReachesPairs c.args.a.now c.args.b.now c.args.settings.now) c.from_residual.result c.in_err-at-in-Err.field-0.0 c.from_residual.ensures.1
    (unknown_refused c.args.a.now c.args.b.now c.args.settings.now c.requires.matches c.in-Err.error c.in-Err.ensures c.in_err-at-in-Err.field-0.0 c.in_err-at-in-Err.ensures)

pub returns-in_ok-at-in-Err : goal.returns-in_ok-at-in-Err
returns-in_ok-at-in-Err c =
    subst (λ (names : List (List ℕ)). StopsAtLimit c.args.a.now c.args.b.now c.args.settings.now names c.in_ok-at-in-Err.at) (sym c.new.ensures)
    (unknown_stops c.args.a.now c.args.b.now c.args.settings.now c.in-Err.error c.in-Err.ensures c.in_ok-at-in-Err.at c.in_ok-at-in-Err.ensures)

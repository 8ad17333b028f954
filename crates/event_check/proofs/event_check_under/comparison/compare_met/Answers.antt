-- The limit of an enable or of a class, or what is refused before the pairs.
use Rattle.std.proofs.Common.{◌+◌, ℕ, List, length, Some, Ok, sym, ap, subst, arith, inr}
use Rattle.plain_check.proofs.under_base.compare_base.Refusals.{refused_by}
use Rattle.assume_queries.specs.assume_sequences.assume_taken.Premises.{IsPremiseOf}
use Rattle.event_check.specs.event_answers.Reached.{ReachesPairs}
use Rattle.event_check.specs.declared.event_answers.reaching.Reached.{Reached}
use Rattle.event_check.proofs.event_answers.Told.{limit_at, told_settled}
use Rattle.event_check.specs.event_check_under.Settles.{SettlesInEventsUnder}
use Rattle.event_check.specs.declared.event_answers.outcomes.Settled.{Settled}
use Rattle.event_check.proofs.event_check_under.event_answers_under.Answering.{limit_compared, met, no_cares}
use Rattle.event_check.proofs.event_check_under.event_answers_under.Refusals.{refused_under}
use Rattle.plain_check.specs.under_base.Met.{shared_by}
use Rattle.event_check.proofs.event_check_under.comparison.compare_met.Goals as goal

pub returns-in_err-classed : goal.returns-in_err-classed
returns-in_err-classed c =
    let x = c.args.circuits.now in
    let a = x.left.now in
    let b = x.right.now in
    let s = c.args.settings.now in
    let m = c.requires.matched in
    let premise = subst (λ (names : List (List ℕ)). IsPremiseOf names x.assumed.now (length names) c.args.premise) m.shared c.requires.premise in
    let is_met = met a b x.assumed.now s c.keeps.ensures.sound c.keeps-2.ensures.sound m.left m.right m.matches (length (shared_by a b)) c.args.premise premise in
    refused_by (SettlesInEventsUnder c.args.settles a b x.assumed.now s) c.from_residual.result c.in_err-classed.field-0.0 c.from_residual.ensures.1
    (refused_under a b x.assumed.now s c.in_err-classed.field-0.0 is_met c.in_err-classed.ensures)

pub compare_classed-requires-clause-classed : goal.compare_classed-requires-clause-classed
compare_classed-requires-clause-classed c = subst (λ (r : Reached). ReachesPairs c.args.circuits.now.left.now c.args.circuits.now.right.now c.args.settings.now (Ok r)) c.in-Pairs.is c.in_ok-classed.ensures

pub outcome_under-requires : goal.outcome_under-requires
outcome_under-requires c = omega (arith, ap length c.requires.premise.assumed.shape.outputs)

pub compare_classed-requires-clause-premise : goal.compare_classed-requires-clause-premise
compare_classed-requires-clause-premise c =
    let x = c.args.circuits.now in
    subst (λ (more : ℕ). IsPremiseOf x.shared.now x.assumed.now (length x.shared.now + more) c.in_ok-premise-in-Pairs.premise) c.len.ensures
    (c.in_ok-premise-in-Pairs.ensures x.shared.now x.assumed.now (length x.shared.now) c.requires.premise)

pub returns-in_ok-outcome_under-in-Limit : goal.returns-in_ok-outcome_under-in-Limit
returns-in_ok-outcome_under-in-Limit c =
    let x = c.args.circuits.now in
    let a = x.left.now in
    let b = x.right.now in
    let s = c.args.settings.now in
    let m = c.requires.matched in
    let premise = subst (λ (names : List (List ℕ)). IsPremiseOf names x.assumed.now (length names) c.args.premise) m.shared c.requires.premise in
    let shape = premise.assumed.shape in
    let stops = subst (λ (r : Reached). ReachesPairs a b s (Ok r)) c.in-Limit.is c.in_ok-classed.ensures in
    let is =
    told_settled a b (length x.shared.now) (Some shape.output.name) c.in-Limit.exposed c.limit_found-found.result (limit_at c.in-Limit.at) c.in_ok-outcome_under-in-Limit.field-0
    (c.in_ok-outcome_under-in-Limit.ensures shape.output shape.outputs) (ap length m.shared) c.limit_found-found.ensures
    in
    subst (λ (y : Settled). SettlesInEventsUnder c.args.settles a b x.assumed.now s (Ok y)) (sym is) (
      inr (limit_compared a b x.assumed.now s c.keeps.ensures.sound c.keeps-2.ensures.sound m.left m.right m.matches (length (shared_by a b)) c.args.premise premise c.in-Limit.exposed c.in-Limit.at stops),
      λ asks. no_cares a b x.assumed.now s c.keeps.ensures.sound c.keeps-2.ensures.sound m.left m.right m.matches (length (shared_by a b)) c.args.premise premise c.in-Limit.exposed c.in-Limit.at stops,
    )

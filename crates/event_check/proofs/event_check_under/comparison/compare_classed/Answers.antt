-- The outcome by the pairs, or why they can't be compared.
use Rattle.std.proofs.Common.{◌∙◌, ◌+◌, ℕ, List, length, Some, Ok, refl, sym, ap, subst, arith, inr}
use Rattle.plain_check.proofs.under_base.compare_base.Refusals.{refused_by}
use Rattle.assume_queries.specs.assume_sequences.assume_taken.Premises.{IsPremiseOf}
use Rattle.event_check.proofs.event_answers.Told.{told_settled, settled_by}
use Rattle.event_check.specs.event_check_under.Settles.{SettlesInEventsUnder}
use Rattle.event_check.specs.declared.event_answers.outcomes.Settled.{Settled}
use Rattle.event_check.proofs.event_check_under.event_answers_under.Answering.{can_be_premise, cares_found, met, pairs_compared}
use Rattle.event_check.proofs.event_check_under.event_answers_under.Refusals.{pairs_refused_under}
use Rattle.plain_check.specs.under_base.Met.{shared_by}
use Rattle.event_check.proofs.event_check_under.comparison.compare_classed.Goals as goal

pub compare_pairs-requires-clause-premise : goal.compare_pairs-requires-clause-premise
compare_pairs-requires-clause-premise c =
    let x = c.args.circuits.now in
    let a = x.left.now in
    let b = x.right.now in
    let m = c.requires.matched in
    let premise = subst (λ (names : List (List ℕ)). IsPremiseOf names x.assumed.now (length names + length c.args.classed.now.exposed) c.args.premise.now) m.shared c.requires.premise in
    can_be_premise a b x.assumed.now c.args.settings.now c.keeps.ensures.sound c.keeps-2.ensures.sound m.left m.right m.matches (length (shared_by a b) + length c.args.classed.now.exposed) c.args.premise.now premise c.args.classed.now c.requires.classed refl

pub outcome_under-requires : goal.outcome_under-requires
outcome_under-requires c = omega (arith, ap length c.requires.premise.assumed.shape.outputs)

pub returns-in_err-found : goal.returns-in_err-found
returns-in_err-found c =
    let x = c.args.circuits.now in
    let a = x.left.now in
    let b = x.right.now in
    let s = c.args.settings.now in
    let m = c.requires.matched in
    let premise = subst (λ (names : List (List ℕ)). IsPremiseOf names x.assumed.now (length names + length c.args.classed.now.exposed) c.args.premise.now) m.shared c.requires.premise in
    let is_met = met a b x.assumed.now s c.keeps.ensures.sound c.keeps-2.ensures.sound m.left m.right m.matches (length (shared_by a b) + length c.args.classed.now.exposed) c.args.premise.now premise in
    refused_by (SettlesInEventsUnder c.args.settles a b x.assumed.now s) c.from_residual.result c.in_err-found.field-0.0 c.from_residual.ensures.1
    (pairs_refused_under a b x.assumed.now s is_met c.args.classed.now c.requires.classed c.args.premise.now premise.weight_is s.conflicts c.args.settles c.in_err-found.field-0.0 c.in_err-found.ensures)

pub returns : goal.returns
returns c =
    let x = c.args.circuits.now in
    let a = x.left.now in
    let b = x.right.now in
    let s = c.args.settings.now in
    let m = c.requires.matched in
    let y = c.args.classed.now in
    let f = c.in_ok-found.found in
    let premise = subst (λ (names : List (List ℕ)). IsPremiseOf names x.assumed.now (length names + length y.exposed) c.args.premise.now) m.shared c.requires.premise in
    let shape = premise.assumed.shape in
    let is = told_settled a b (length x.shared.now) (Some shape.output.name) c.replace-exposed.result f f c.in_ok-outcome_under.field-0 (c.in_ok-outcome_under.ensures shape.output shape.outputs) (ap length m.shared) refl in
    let same = is ∙ ap (λ (names : List (List ℕ)). settled_by a b (Some shape.output.name) names f) c.replace-exposed.ensures.value in
    subst (λ (z : Settled). SettlesInEventsUnder c.args.settles a b x.assumed.now s (Ok z)) (sym same) (
      inr (pairs_compared a b x.assumed.now s c.keeps.ensures.sound c.keeps-2.ensures.sound m.left m.right m.matches (length (shared_by a b) + length y.exposed) c.args.premise.now premise y c.requires.classed refl c.args.settles f c.in_ok-found.ensures),
      cares_found a b x.assumed.now s c.keeps.ensures.sound c.keeps-2.ensures.sound m.left m.right m.matches (length (shared_by a b) + length y.exposed) c.args.premise.now premise y c.requires.classed refl c.args.settles f c.in_ok-found.ensures,
    )

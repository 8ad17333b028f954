use Rattle.std.proofs.Common.{arith}
use Rattle.sat_search.proofs.Analysing.{falsified_whole, analysing_smaller, analysing_end, decision_within, last_within}
use Rattle.sat_search.proofs.Uniques.{reason_step, unique_start}
use Rattle.sat_search.proofs.analysis.resolve_back.Goals as goal

pub steps-init : goal.steps-init
steps-init c = rw c.len-bound.ensures.length c.requires.analysing

pub unique_at-requires-clause-within : goal.unique_at-requires-clause-within
unique_at-requires-clause-within c = last_within c.args.trail.now.entries c.steps.resolver c.in-Some.last c.in-Some.ensures

pub returns-in-Some-unique_at : goal.returns-in-Some-unique_at
returns-in-Some-unique_at c =
    let u = c.in-Some-unique_at.ensures in
    let within = decision_within c.args.trail.now.entries c.args.decision c.in-Some-unique_at.decision u.0 c.steps.invariant.decided in (
      unique_start c.args.store.now c.args.trail.now c.args.decision c.in-Some-unique_at.decision c.steps.resolver c.steps.chain c.steps.bound c.in-Some.last c.steps.invariant c.in-Some.ensures u.0 u.1,
      omega (arith, within, c.len-bound.ensures.length, c.len-bound.ensures.within, c.len-bound.ensures.small),
      within,
    )

pub resolve_with_reason-requires-clause-falsified : goal.resolve_with_reason-requires-clause-falsified
resolve_with_reason-requires-clause-falsified c =
    falsified_whole c.args.trail.now.entries c.steps.resolver c.steps.bound c.steps.invariant.bounded c.steps.invariant.falsified

pub steps-smaller : goal.steps-smaller
steps-smaller c =
    analysing_smaller c.args.store.now c.args.trail.now c.args.decision c.steps.chain.start c.steps.resolver c.steps.chain.steps c.steps.bound c.in-Some.last c.requires.trail c.steps.invariant c.in-Some.ensures

pub steps-preserved : goal.steps-preserved
steps-preserved c =
    reason_step c.args.store.now c.args.trail.now c.args.decision c.steps.resolver c.resolve_with_reason.new.resolver c.steps.chain c.resolve_with_reason.new.chain c.steps.bound c.in-Some.last
    c.requires.trail c.requires.range c.steps.invariant c.in-Some.ensures c.in_ok-resolve_with_reason.ensures

pub returns : goal.returns
returns c = analysing_end c.args.store.now c.args.trail.now c.args.decision c.steps.chain c.steps.resolver c.steps.bound c.steps.invariant c.in_default.ensures

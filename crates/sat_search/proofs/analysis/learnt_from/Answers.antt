use Rattle.std.proofs.Common.{ℕ, refl, subst, arith}
use Rattle.sat_search.specs.Answers.{IsLastFalse, IsFirstDecision}
use Rattle.sat_search.proofs.Uniques.{second_early, second_small}
use Rattle.sat_search.proofs.analysis.learnt_from.Goals as goal

pub after-requires : goal.after-requires
after-requires c =
    let t = c.args.trail.now.entries in
    let second = c.in_ok-second.second in
    let is = subst (λ (v : ℕ). IsLastFalse t c.args.resolver.now v second) c.variable.ensures.value c.in_ok-second.ensures.0 in
    second_small c.args.decision second (second_early t c.args.resolver.now c.args.decision c.args.last.now second c.requires.trail c.requires.alone is) c.requires.small

pub first_decision-keep-requires-clause-order : goal.first_decision-keep-requires-clause-order
first_decision-keep-requires-clause-order c =
    let t = c.args.trail.now.entries in
    let second = c.in_ok-second.second in
    let is = subst (λ (v : ℕ). IsLastFalse t c.args.resolver.now v second) c.variable.ensures.value c.in_ok-second.ensures.0 in
    omega (arith, c.after.ensures, second_early t c.args.resolver.now c.args.decision c.args.last.now second c.requires.trail c.requires.alone is)

pub returns : goal.returns
returns c =
    let t = c.args.trail.now.entries in
    let second = c.in_ok-second.second in
    record {
      same = c.in_ok-clause.ensures;
      ordered = c.in_ok-second.ensures.1;
      derived = refl;
      asserted = refl;
      other = subst (λ (v : ℕ). IsLastFalse t c.args.resolver.now v second) c.variable.ensures.value c.in_ok-second.ensures.0;
      kept = subst (λ (from : ℕ). IsFirstDecision t from c.args.decision c.first_decision-keep.result) c.after.ensures c.first_decision-keep.ensures;
    }

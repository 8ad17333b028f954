use Rattle.std.proofs.Common.{subst}
use Rattle.std.proofs.lemmas.Option.{slice_get_within}
use Rattle.proof_check.specs.Resolution.{IsResolvent, IsStepAnswer}
use Rattle.proof_check.specs.Literals.{negation}
use Rattle.proof_check.specs.declared.resolution.Outcome.{Outcome}
use Rattle.clause_watch.proofs.Trails.{at_within}
use Rattle.sat_search.proofs.Analysing.{reason_of, reason_opposite, reason_no_clash, step_no_pivot, step_clashes}
use Rattle.sat_search.proofs.analysis.resolve_at.Goals as goal

pub entry-requires : goal.entry-requires
entry-requires c = at_within c.args.trail.now.entries c.args.placed.now.place (negation c.args.placed.now.literal) c.requires.there

pub clause-requires : goal.clause-requires
clause-requires c =
    let f = reason_of c.args.store.now c.args.trail.now.entries c.args.placed.now.place c.in-Some.number c.args.placed.now.literal c.entry.result c.requires.trail c.requires.there c.entry.ensures.there c.in-Some.is in
    slice_get_within c.args.store.now c.in-Some.number f.clause f.is_there

pub unreachable-requires-in-NoPivot : goal.unreachable-requires-in-NoPivot
unreachable-requires-in-NoPivot c =
    let placed = c.args.placed.now in
    let f = reason_of c.args.store.now c.args.trail.now.entries placed.place c.in-Some.number placed.literal c.entry.result c.requires.trail c.requires.there c.entry.ensures.there c.in-Some.is in
    step_no_pivot _ _ _ _ placed.literal.variable _ c.in_ok-resolve.ensures.ok c.in-NoPivot.is c.variable.ensures.value
    (reason_opposite c.args.store.now c.args.trail.now.entries placed.place c.in-Some.number placed.literal c.args.resolver.now c.clause.result.now f c.clause.ensures.there c.requires.holds)

pub unreachable-requires-in-Clashes : goal.unreachable-requires-in-Clashes
unreachable-requires-in-Clashes c =
    let placed = c.args.placed.now in
    let f = reason_of c.args.store.now c.args.trail.now.entries placed.place c.in-Some.number placed.literal c.entry.result c.requires.trail c.requires.there c.entry.ensures.there c.in-Some.is in
    step_clashes _ _ _ _ placed.literal.variable _ c.in_ok-resolve.ensures.ok c.in-Clashes.is c.variable.ensures.value
    (reason_no_clash c.args.store.now c.args.trail.now.entries placed.place c.in-Some.number placed.literal c.args.resolver.now c.clause.result.now c.requires.trail f c.clause.ensures.there c.requires.falsified)

pub returns : goal.returns
returns c =
    let placed = c.args.placed.now in
    let old = c.args.resolver.now in
    let clause = c.clause.result.now in
    let new = c.resolve.new.self in
    let f = reason_of c.args.store.now c.args.trail.now.entries placed.place c.in-Some.number placed.literal c.entry.result c.requires.trail c.requires.there c.entry.ensures.there c.in-Some.is in
    let answer = subst (λ (o : Outcome). IsStepAnswer old clause c.variable.result o new) c.in-Derived.is c.in_ok-resolve.ensures.ok in
    ((clause, c.clause.ensures.there, subst (λ v. IsResolvent old clause v new) c.variable.ensures.value answer), f)

use Rattle.std.proofs.Common.{◌∙◌, length, arith}
use Rattle.sat_search.specs.Uniques.{IsUnique, IsReasonStep}
use Rattle.clause_watch.specs.declared.places.Placed.{Placed}
use Rattle.clause_watch.proofs.Lessons.{on_ok}
use Rattle.sat_search.proofs.Uniques.{literal_at, unique_step}
use Rattle.sat_search.proofs.minimisation.take_away.Goals as goal

pub resolve_with_reason-requires-clause-there : goal.resolve_with_reason-requires-clause-there
resolve_with_reason-requires-clause-there c =
    let t = c.args.trail.now.entries in
    let h = c.in-Some.ensures in
    literal_at t c.args.resolver.now (length t) c.args.place c.entry.result c.in-Some.literal c.requires.trail.distinct c.requires.unique.analysing.falsified c.entry.ensures.there (h.0, h.1 ∙ c.variable.ensures.value)

pub returns : goal.returns
returns c =
    let t = c.args.trail.now in
    let h = c.in-Some.ensures in
    let there = literal_at t.entries c.args.resolver.now (length t.entries) c.args.place c.entry.result c.in-Some.literal c.requires.trail.distinct c.requires.unique.analysing.falsified c.entry.ensures.there (h.0, h.1 ∙ c.variable.ensures.value) in
    let placed : Placed = record { literal = c.in-Some.literal; place = c.args.place } in
    on_ok (IsReasonStep c.args.store.now t.entries placed c.args.resolver.now c.args.chain.now c.resolve_with_reason.new.resolver c.resolve_with_reason.new.chain)
    (IsUnique c.args.store.now t c.args.decision c.resolve_with_reason.new.resolver c.resolve_with_reason.new.chain c.args.last.now) c.resolve_with_reason.result
    (λ r. unique_step c.args.store.now t c.args.decision c.args.resolver.now c.resolve_with_reason.new.resolver c.args.chain.now c.resolve_with_reason.new.chain c.args.last.now placed c.requires.trail c.requires.range c.requires.unique (omega (arith, c.if-place-decision.false)) there r)
    c.resolve_with_reason.ensures

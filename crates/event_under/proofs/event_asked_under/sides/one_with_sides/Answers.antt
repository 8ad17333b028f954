-- The literal of the care is one of the graph.
use Rattle.std.proofs.Common.{◌≡◌, ◌∙◌, ◌*◌, ◌<◌, List, length, get_or, sym, ap, subst}
use Rattle.aig.specs.declared.node.Lit.{Lit}
use Rattle.pair_decide.specs.declared.query.Query.{Query}
use Rattle.event_under.proofs.event_asked_under.WithSides.{twin_within}
use Rattle.event_under.proofs.event_asked_under.sides.one_with_sides.Goals as goal

pub and-requires-clause-right : goal.and-requires-clause-right
and-requires-clause-right c =
    let q = c.index-as_slice-0.result in
    let same : q ≡ c.requires.asked.query = c.index-as_slice-0.is ∙ ap (λ (qs : List Query). get_or qs 0 q) (c.as_slice.ensures ∙ c.requires.asked.only) in
    let low : q.care.0 < 2 * length c.args.lits.now = subst (λ (x : Query). x.care.0 < 2 * length c.args.lits.now) (sym same) c.requires.asked.care in
    subst (λ (y : Lit). y.0 < 2 * length c.args.aig.now) (sym c.literal_for.ensures) (twin_within c.args.lits.now c.args.aig.now c.requires.literals q.care low)

-- The signals that lead back.
use Rattle.std.proofs.Common.{ℕ, List, get_or, subst, sym}
use Rattle.signal_graph.specs.inner_cone.Inner.{AreHigh}
use Rattle.signal_graph.proofs.inner_cone.sides.sides_of.Goals as goal

pub sides_among-requires-clause-high : goal.sides_among-requires-clause-high
sides_among-requires-clause-high c =
    subst (λ (z : List ℕ). AreHigh c.args.net.now c.args.ranks.now (get_or c.args.ranks.now c.args.own.0 0) c.args.from.0 z) (sym c.as_slice.ensures)
    (subst (λ m. AreHigh c.args.net.now c.args.ranks.now m c.args.from.0 c.in_ok-seen.seen) c.number_at-least.ensures c.in_ok-seen.ensures)

-- The graph grows, and the cover stands behind those that were made before.
use Rattle.std.proofs.Common.{sym, subst, List}
use Rattle.std.specs.Prelude.{All}
use Rattle.event_nodes.specs.declared.cover_graph.made.MadeCover.{MadeCover}
use Rattle.event_nodes.specs.Covers.{IsMadeCover}
use Rattle.event_nodes.proofs.Covers.{made_grow, made_of, made_more}
use Rattle.event_nodes.proofs.cover_graph.CoverGraph.make.Goals as goal

pub invariant_of-self : goal.invariant_of-self
invariant_of-self c = made_grow c.self.inside.aig c.cover.new.self c.cover.ensures.grows c.self.inside.made.items c.self.invariant

pub invariant_of-self-in_err-made : goal.invariant_of-self-in_err-made
invariant_of-self-in_err-made c = made_grow c.self.inside.aig c.cover.new.self c.cover.ensures.grows c.self.inside.made.items c.self.invariant

pub invariant_of-self-in_err-push : goal.invariant_of-self-in_err-push
invariant_of-self-in_err-push c =
    subst (λ (xs : List MadeCover). All (IsMadeCover c.cover.new.self) xs) (sym {A = List MadeCover} c.in_err-push.ensures.items)
    (made_grow c.self.inside.aig c.cover.new.self c.cover.ensures.grows c.self.inside.made.items c.self.invariant)

pub invariant_of-self-then-cells-le-REMEMBERED : goal.invariant_of-self-then-cells-le-REMEMBERED
invariant_of-self-then-cells-le-REMEMBERED c =
    made_more c.self.inside.aig c.cover.new.self c.cover.ensures.grows c.self.inside.made.items c.push.new.self.items c.in_ok-made.made c.in_ok-push.ensures.items c.self.invariant
    (made_of c.cover.new.self c.in_ok-made.made c.args.cover.now c.args.fanins.now c.in_ok-lit.lit c.in_ok-made.ensures.cover c.in_ok-made.ensures.fanins c.in_ok-made.ensures.lit c.in_ok-lit.ensures.here c.in_ok-lit.ensures.within)

pub invariant_of-self-else-cells-le-REMEMBERED : goal.invariant_of-self-else-cells-le-REMEMBERED
invariant_of-self-else-cells-le-REMEMBERED c = made_grow c.self.inside.aig c.cover.new.self c.cover.ensures.grows c.self.inside.made.items c.self.invariant

use Rattle.std.proofs.Common.{◌<◌, ◌*◌, List, length, map, All, sym, subst, ◌∙◌}
use Rattle.aig.specs.declared.node.Lit.{Lit}
use Rattle.aig.specs.declared.node.Node.{Node}
use Rattle.aig.specs.Cone.{IsConeOf, IsClosed}
use Rattle.aig.proofs.ConeWalks.{cone-made}
use Rattle.aig.proofs.graph.Aig.cone.Goals as goal

pub reached-requires-clause-within : goal.reached-requires-clause-within
reached-requires-clause-within c = subst (λ (k : List Node). All (λ (l : Lit). l.0 < 2 * length k) c.args.roots.now) (sym c.nodes-nodes.ensures.nodes) c.requires

pub returns-clause-cone : goal.returns-clause-cone
returns-clause-cone c =
    let g = c.nodes-nodes.result.now in
    let roots = map (λ (x : Lit). x.0) c.args.roots.now in
    let made = cone-made g roots c.in_ok-seen.seen c.in_ok-cone.cone.items c.sort.new.self.items c.from_vec.result c.in_ok-seen.ensures (c.in_ok-cone.ensures.items ∙ c.as_slice.ensures) c.sort.ensures.permutation c.in_ok-sort.ensures.sorted c.from_vec.ensures in
    subst (λ (k : List Node). IsConeOf k roots c.from_vec.result) c.nodes-nodes.ensures.nodes made.0

pub returns-clause-closed : goal.returns-clause-closed
returns-clause-closed c =
    let g = c.nodes-nodes.result.now in
    let roots = map (λ (x : Lit). x.0) c.args.roots.now in
    let made = cone-made g roots c.in_ok-seen.seen c.in_ok-cone.cone.items c.sort.new.self.items c.from_vec.result c.in_ok-seen.ensures (c.in_ok-cone.ensures.items ∙ c.as_slice.ensures) c.sort.ensures.permutation c.in_ok-sort.ensures.sorted c.from_vec.ensures in
    subst (λ (k : List Node). IsClosed k c.from_vec.result) c.nodes-nodes.ensures.nodes made.1

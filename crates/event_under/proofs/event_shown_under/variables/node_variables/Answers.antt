-- One variable more.
use Rattle.std.proofs.Common.{◌≡◌, ℕ, ◌<◌, ◌≤◌, List, length, get_or, slice_get, Some, sym, ap, subst, arith}
use Rattle.std.proofs.lemmas.Option.{slice_get-get_or}
use Rattle.event_nodes.specs.Nodes.{EventGraphView}
use Rattle.flat_net.proofs.Places.{All-at}
use Rattle.event_under.proofs.Making.{next_made}
use Rattle.event_under.proofs.event_shown_under.variables.node_variables.Goals as goal

pub number-requires-clause-node : goal.number-requires-clause-node
number-requires-clause-node c =
    let inside : c.in-Some.node ≤ length c.args.events.now.children =
    All-at (λ (n : ℕ). n ≤ length c.args.events.now.children) c.args.nodes.now c.pair-input.result.1 c.in-Some.node (c.node_at.ensures c.in-Some.node c.in-Some.is) c.requires.nodes in
    subst (λ (edges : List (ℕ × ℕ)). c.in-Some.node ≤ length edges) (sym c.loop-i.invariant.children_are) inside

pub loop-i-preserved : goal.loop-i-preserved
loop-i-preserved c =
    let vars = c.args.vars.now in
    let i = c.loop-i.i in
    let v = get_or vars i 0 in
    let low : i < length vars = omega (arith, c.loop-i-test.true) in
    let at : slice_get vars i ≡ Some v = slice_get-get_or vars i 0 low in
    next_made c.args.events.now.children c.args.nodes.now c.args.places.now vars i v c.pair-input.result c.in-Some.node c.in_ok-number.number c.loop-i.made c.number.new.self c.loop-i.numbers.items c.push.new.self.items c.keeps.ensures.events c.keeps-in-loop-i.ensures.events
    c.in_ok-number.ensures.grows (ap (λ (w : EventGraphView). w.children) c.in_ok-number.ensures.same) at c.pair-input.ensures (c.node_at.ensures c.in-Some.node c.in-Some.is) c.in_ok-number.ensures.here c.in_ok-push.ensures.items c.loop-i.invariant

-- One node more.
use Rattle.std.proofs.Common.{◌≡◌, ◌∙◌, ℕ, ◌+◌, ◌-◌, ◌≤◌, length, slice_get, Some, ap, subst, arith}
use Rattle.std.proofs.lemmas.List.{length-take-le, take_all}
use Rattle.event_nodes.specs.Nodes.{EventGraphView}
use Rattle.event_nodes.proofs.event_variables.ranked_nodes.Zeros.{next_entry}
use Rattle.event_nodes.proofs.event_variables.ranked_nodes.nodes.copy_nodes.Goals as goal

pub loop-n-preserved : goal.loop-n-preserved
loop-n-preserved c =
    let es = c.args.events.now.children in
    let n = c.loop-n.n in
    let back : n + 1 - 1 ≡ n = omega arith in
    let at : slice_get es n ≡ Some c.step-parent.result = subst (λ (k : ℕ). slice_get es k ≡ Some c.step-parent.result) back c.step-parent.ensures in
    let here = c.in_ok-child.ensures.here in
    record {
      children = next_entry es c.keeps.ensures.events.once n c.step-parent.result at c.loop-n.made.children c.child.new.self.children c.loop-n.invariant.children c.child.ensures.adds c.child.ensures.few here.0 here.2;
      places = ap (λ (w : EventGraphView). w.places) c.child.ensures.same ∙ c.loop-n.invariant.places;
    }

pub loop-n-init : goal.loop-n-init
loop-n-init c = record { children = ap (λ (w : EventGraphView). w.children) c.in_ok-made.ensures; places = ap (λ (w : EventGraphView). w.places) c.in_ok-made.ensures }

pub child-requires-clause-node : goal.child-requires-clause-node
child-requires-clause-node c =
    let es = c.args.events.now.children in
    let n = c.loop-n.n in
    let below : n ≤ length es = omega (arith, c.loop-n-test.true, c.nodes-n-end.ensures) in
    let back : n + 1 - 1 ≡ n = omega arith in
    let at : slice_get es n ≡ Some c.step-parent.result = subst (λ (k : ℕ). slice_get es k ≡ Some c.step-parent.result) back c.step-parent.ensures in
    let low = c.keeps.ensures.events.is_tree n c.step-parent.result.0 c.step-parent.result.1 at in
    let long : length c.loop-n.made.children ≡ n = ap length c.loop-n.invariant.children ∙ length-take-le n es below in
    omega (arith, low, long)

pub child-requires-clause-room : goal.child-requires-clause-room
child-requires-clause-room c =
    let es = c.args.events.now.children in
    let n = c.loop-n.n in
    let below : n ≤ length es = omega (arith, c.loop-n-test.true, c.nodes-n-end.ensures) in
    let long : length c.loop-n.made.children ≡ n = ap length c.loop-n.invariant.children ∙ length-take-le n es below in
    omega (arith, long, below, c.requires.room)

pub returns-clause-children : goal.returns-clause-children
returns-clause-children c =
    let whole : length c.args.events.now.children ≤ c.loop-n.n = omega (arith, c.loop-n-test.false, c.nodes-n-end.ensures) in
    c.loop-n.invariant.children ∙ take_all c.loop-n.n c.args.events.now.children whole

pub returns-clause-places : goal.returns-clause-places
returns-clause-places c = c.loop-n.invariant.places

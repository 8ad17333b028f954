-- The child is the next one or one that was there.
use Rattle.std.proofs.Common.{◌≡◌, ◌∙◌, ◌+◌, ◌^◌, ◌<◌, ◌≤◌, ℕ, length, refl, sym, ap, subst, arith}
use Rattle.aig.specs.Adds.{Adds}
use Rattle.event_nodes.specs.Nodes.{EventGraphView, GrowsEvents, IsEventGraph}
use Rattle.event_nodes.proofs.Growing.{child_grows, grows_refl}
use Rattle.event_nodes.proofs.Kept.{same_children, few_same, small_number, room_for_one, child_kept}
use Rattle.aig.proofs.Lists.{adds_none}
use Rattle.aig.proofs.Interned.{interned}
use Rattle.event_nodes.proofs.events.EventGraph.child.Goals as goal

pub intern-requires : goal.intern-requires
intern-requires c = room_for_one (length c.self.inside.children) (subst (λ (w : EventGraphView). length w.children + 2 < 2 ^ 32) (sym c.self.view_is) c.requires.room)

pub invariant_of-self : goal.invariant_of-self
invariant_of-self c =
    subst IsEventGraph (sym (same_children (record { graph = c.self.inside.aig; children = c.self.inside.children; places = c.self.inside.places }) c.intern.new.self c.in_err-entry.ensures.err)) c.self.invariant

pub returns-in_err-entry-clause-grows : goal.returns-in_err-entry-clause-grows
returns-in_err-entry-clause-grows c =
    subst (λ (w : EventGraphView). GrowsEvents w (record { graph = c.self.inside.aig; children = c.intern.new.self; places = c.self.inside.places }))
    (same_children (record { graph = c.self.inside.aig; children = c.self.inside.children; places = c.self.inside.places }) c.intern.new.self c.in_err-entry.ensures.err ∙ c.self.view_is)
    (grows_refl (record { graph = c.self.inside.aig; children = c.intern.new.self; places = c.self.inside.places }))

pub returns-in_err-entry-clause-adds : goal.returns-in_err-entry-clause-adds
returns-in_err-entry-clause-adds c =
    subst (λ (w : EventGraphView). Adds (λ (q : ℕ × ℕ). q ≡ (c.args.node, c.args.class)) w.children c.intern.new.self) c.self.view_is
    (adds_none (λ (q : ℕ × ℕ). q ≡ (c.args.node, c.args.class)) c.self.inside.children c.intern.new.self c.in_err-entry.ensures.err)

pub returns-in_err-entry-clause-few : goal.returns-in_err-entry-clause-few
returns-in_err-entry-clause-few c = subst (λ (w : EventGraphView). length c.intern.new.self ≤ length w.children + 1) c.self.view_is (few_same c.self.inside.children c.intern.new.self c.in_err-entry.ensures.err)

pub returns-in_err-entry-clause-same : goal.returns-in_err-entry-clause-same
returns-in_err-entry-clause-same c = ap (λ (w : EventGraphView). record w { children = c.intern.new.self }) c.self.view_is

pub overflow_add-result : goal.overflow_add-result
overflow_add-result c =
    let small = small_number c.self.inside.children c.intern.new.self c.in_ok-entry.entry (c.args.node, c.args.class) (interned c.self.inside.children c.intern.new.self (c.args.node, c.args.class) c.in_ok-entry.ensures.known c.in_ok-entry.ensures.added).1
    (room_for_one (length c.self.inside.children) (subst (λ (w : EventGraphView). length w.children + 2 < 2 ^ 32) (sym c.self.view_is) c.requires.room)) c.in_ok-entry.ensures.here in
    omega (arith, small)

pub invariant_of-self-2 : goal.invariant_of-self-2
invariant_of-self-2 c =
    child_kept (record { graph = c.self.inside.aig; children = c.self.inside.children; places = c.self.inside.places }) c.intern.new.self (c.args.node, c.args.class) c.self.invariant
    (subst (λ (w : EventGraphView). c.args.node ≤ length w.children) (sym c.self.view_is) c.requires.node) c.in_ok-entry.ensures.known c.in_ok-entry.ensures.added c.keeps.ensures

pub returns-clause-here : goal.returns-clause-here
returns-clause-here c = (c.in_ok-entry.entry, refl, c.in_ok-entry.ensures.here)

pub returns-clause-grows : goal.returns-clause-grows
returns-clause-grows c =
    subst (λ (w : EventGraphView). GrowsEvents w (record { graph = c.self.inside.aig; children = c.intern.new.self; places = c.self.inside.places })) c.self.view_is
    (child_grows (record { graph = c.self.inside.aig; children = c.self.inside.children; places = c.self.inside.places }) c.intern.new.self (c.args.node, c.args.class) c.in_ok-entry.ensures.known c.in_ok-entry.ensures.added)

pub returns-clause-adds : goal.returns-clause-adds
returns-clause-adds c =
    subst (λ (w : EventGraphView). Adds (λ (q : ℕ × ℕ). q ≡ (c.args.node, c.args.class)) w.children c.intern.new.self) c.self.view_is
    (interned c.self.inside.children c.intern.new.self (c.args.node, c.args.class) c.in_ok-entry.ensures.known c.in_ok-entry.ensures.added).0

pub returns-clause-few : goal.returns-clause-few
returns-clause-few c =
    subst (λ (w : EventGraphView). length c.intern.new.self ≤ length w.children + 1) c.self.view_is
    (interned c.self.inside.children c.intern.new.self (c.args.node, c.args.class) c.in_ok-entry.ensures.known c.in_ok-entry.ensures.added).1

pub returns-clause-same : goal.returns-clause-same
returns-clause-same c = ap (λ (w : EventGraphView). record w { children = c.intern.new.self }) c.self.view_is

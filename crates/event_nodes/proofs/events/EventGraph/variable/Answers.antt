-- The variable is the next one or one that was there.
use Rattle.std.proofs.Common.{◌∙◌, ◌+◌, ◌^◌, ◌<◌, ◌≤◌, length, sym, ap, subst}
use Rattle.std.proofs.lemmas.Result.{IfOk-weaker}
use Rattle.event_nodes.specs.Nodes.{EventGraphView, GrowsEvents, IsEventGraph}
use Rattle.event_nodes.proofs.Growing.{place_grows, grows_refl}
use Rattle.event_nodes.proofs.Kept.{same_places, one_more, few_same, small_number, variable_kept}
use Rattle.aig.proofs.Interned.{interned}
use Rattle.event_nodes.proofs.events.EventGraph.variable.Goals as goal

pub intern-requires : goal.intern-requires
intern-requires c = subst (λ (w : EventGraphView). length w.places + 1 < 2 ^ 32) (sym c.self.view_is) c.requires.places

pub invariant_of-self : goal.invariant_of-self
invariant_of-self c = subst IsEventGraph (sym (same_places (record { graph = c.self.inside.aig; children = c.self.inside.children; places = c.self.inside.places }) c.intern.new.self c.in_err-variable.ensures.err)) c.self.invariant

pub returns-in_err-variable-clause-grows : goal.returns-in_err-variable-clause-grows
returns-in_err-variable-clause-grows c =
    subst (λ (w : EventGraphView). GrowsEvents w (record { graph = c.self.inside.aig; children = c.self.inside.children; places = c.intern.new.self }))
    (same_places (record { graph = c.self.inside.aig; children = c.self.inside.children; places = c.self.inside.places }) c.intern.new.self c.in_err-variable.ensures.err ∙ c.self.view_is)
    (grows_refl (record { graph = c.self.inside.aig; children = c.self.inside.children; places = c.intern.new.self }))

pub returns-in_err-variable-clause-places : goal.returns-in_err-variable-clause-places
returns-in_err-variable-clause-places c = subst (λ (w : EventGraphView). length c.intern.new.self ≤ length w.places + 1) c.self.view_is (few_same c.self.inside.places c.intern.new.self c.in_err-variable.ensures.err)

pub returns-in_err-variable-clause-nodes : goal.returns-in_err-variable-clause-nodes
returns-in_err-variable-clause-nodes c = subst (λ (w : EventGraphView). length c.self.inside.aig ≤ length w.graph + 1) c.self.view_is (one_more (length c.self.inside.aig))

pub returns-in_err-variable-clause-same : goal.returns-in_err-variable-clause-same
returns-in_err-variable-clause-same c = ap (λ (w : EventGraphView). w.children) c.self.view_is

pub input-made-requires-clause-room : goal.input-made-requires-clause-room
input-made-requires-clause-room c = subst (λ (w : EventGraphView). length w.graph + 1 < 2 ^ 30) (sym c.self.view_is) c.requires.nodes

pub input-made-requires-clause-small : goal.input-made-requires-clause-small
input-made-requires-clause-small c =
    small_number c.self.inside.places c.intern.new.self c.in_ok-variable.variable (c.args.input, c.args.node) (interned c.self.inside.places c.intern.new.self (c.args.input, c.args.node) c.in_ok-variable.ensures.known c.in_ok-variable.ensures.added).1
    (subst (λ (w : EventGraphView). length w.places + 1 < 2 ^ 32) (sym c.self.view_is) c.requires.places) c.in_ok-variable.ensures.here

pub invariant_of-self-2 : goal.invariant_of-self-2
invariant_of-self-2 c =
    variable_kept (record { graph = c.self.inside.aig; children = c.self.inside.children; places = c.self.inside.places }) c.intern.new.self c.input-made.new.self (c.args.input, c.args.node) c.self.invariant
    (subst (λ (w : EventGraphView). c.args.node ≤ length w.children) (sym c.self.view_is) c.requires.node) c.in_ok-variable.ensures.known c.in_ok-variable.ensures.added c.keeps.ensures c.keeps-2.ensures.graph

pub returns-clause-here : goal.returns-clause-here
returns-clause-here c = IfOk-weaker c.input-made.result _ _ (λ x h. (c.in_ok-variable.variable, c.in_ok-variable.ensures.here, h)) c.input-made.ensures.here

pub returns-clause-within : goal.returns-clause-within
returns-clause-within c = c.input-made.ensures.within

pub returns-clause-grows : goal.returns-clause-grows
returns-clause-grows c =
    subst (λ (w : EventGraphView). GrowsEvents w (record { graph = c.input-made.new.self; children = c.self.inside.children; places = c.intern.new.self })) c.self.view_is
    (place_grows (record { graph = c.self.inside.aig; children = c.self.inside.children; places = c.self.inside.places }) c.intern.new.self c.input-made.new.self (c.args.input, c.args.node) c.in_ok-variable.ensures.known c.in_ok-variable.ensures.added
    c.input-made.ensures.grows)

pub returns-clause-nodes : goal.returns-clause-nodes
returns-clause-nodes c = subst (λ (w : EventGraphView). length c.input-made.new.self ≤ length w.graph + 1) c.self.view_is c.input-made.ensures.few

pub returns-clause-places : goal.returns-clause-places
returns-clause-places c =
    subst (λ (w : EventGraphView). length c.intern.new.self ≤ length w.places + 1) c.self.view_is
    (interned c.self.inside.places c.intern.new.self (c.args.input, c.args.node) c.in_ok-variable.ensures.known c.in_ok-variable.ensures.added).1

pub returns-clause-same : goal.returns-clause-same
returns-clause-same c = ap (λ (w : EventGraphView). w.children) c.self.view_is

-- The variable is the next one or one that was there.
use Rattle.std.proofs.Common.{◌∙◌, ◌+◌, ◌^◌, ◌<◌, ◌≤◌, length, sym, ap, subst}
use Rattle.aig.proofs.Growth.{Grows-refl}
use Rattle.event_nodes.specs.Nodes.{EventGraphView, GrowsEvents, IsEventGraph}
use Rattle.event_nodes.proofs.Growing.{place_grows, grows_refl}
use Rattle.event_nodes.proofs.Kept.{same_places, few_same, variable_kept}
use Rattle.aig.proofs.Interned.{interned}
use Rattle.event_nodes.proofs.events.EventGraph.number.Goals as goal

pub intern-requires : goal.intern-requires
intern-requires c = subst (λ (w : EventGraphView). length w.places + 1 < 2 ^ 32) (sym c.self.view_is) c.requires.places

pub invariant_of-self : goal.invariant_of-self
invariant_of-self c = subst IsEventGraph (sym (same_places (record { graph = c.self.inside.aig; children = c.self.inside.children; places = c.self.inside.places }) c.intern.new.self c.in_err-variable.ensures.err)) c.self.invariant

pub returns-in_err-variable-clause-grows : goal.returns-in_err-variable-clause-grows
returns-in_err-variable-clause-grows c =
    subst (λ (w : EventGraphView). GrowsEvents w (record { graph = c.self.inside.aig; children = c.self.inside.children; places = c.intern.new.self }))
    (same_places (record { graph = c.self.inside.aig; children = c.self.inside.children; places = c.self.inside.places }) c.intern.new.self c.in_err-variable.ensures.err ∙ c.self.view_is)
    (grows_refl (record { graph = c.self.inside.aig; children = c.self.inside.children; places = c.intern.new.self }))

pub returns-in_err-variable-clause-places : goal.returns-in_err-variable-clause-places
returns-in_err-variable-clause-places c = subst (λ (w : EventGraphView). length c.intern.new.self ≤ length w.places + 1) c.self.view_is (few_same c.self.inside.places c.intern.new.self c.in_err-variable.ensures.err)

pub returns-in_err-variable-clause-same : goal.returns-in_err-variable-clause-same
returns-in_err-variable-clause-same c = ap (λ (w : EventGraphView). record w { places = c.intern.new.self }) c.self.view_is

pub invariant_of-self-2 : goal.invariant_of-self-2
invariant_of-self-2 c =
    variable_kept (record { graph = c.self.inside.aig; children = c.self.inside.children; places = c.self.inside.places }) c.intern.new.self c.self.inside.aig (c.args.input, c.args.node) c.self.invariant
    (subst (λ (w : EventGraphView). c.args.node ≤ length w.children) (sym c.self.view_is) c.requires.node) c.in_ok-variable.ensures.known c.in_ok-variable.ensures.added c.keeps.ensures c.self.invariant.is_graph

pub returns-clause-here : goal.returns-clause-here
returns-clause-here c = c.in_ok-variable.ensures.here

pub returns-clause-grows : goal.returns-clause-grows
returns-clause-grows c =
    subst (λ (w : EventGraphView). GrowsEvents w (record { graph = c.self.inside.aig; children = c.self.inside.children; places = c.intern.new.self })) c.self.view_is
    (place_grows (record { graph = c.self.inside.aig; children = c.self.inside.children; places = c.self.inside.places }) c.intern.new.self c.self.inside.aig (c.args.input, c.args.node) c.in_ok-variable.ensures.known c.in_ok-variable.ensures.added
    (Grows-refl c.self.inside.aig))

pub returns-clause-places : goal.returns-clause-places
returns-clause-places c =
    subst (λ (w : EventGraphView). length c.intern.new.self ≤ length w.places + 1) c.self.view_is
    (interned c.self.inside.places c.intern.new.self (c.args.input, c.args.node) c.in_ok-variable.ensures.known c.in_ok-variable.ensures.added).1

pub returns-clause-same : goal.returns-clause-same
returns-clause-same c = ap (λ (w : EventGraphView). record w { places = c.intern.new.self }) c.self.view_is

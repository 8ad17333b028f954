-- The place is counted at its frame's node.
use Rattle.std.proofs.Common.{◌≡◌, ◌∙◌, ◌<◌, ℕ, length, Err, OnOk, sym, ap, subst}
use Rattle.std.specs.List.{Contains}
use Rattle.event_nodes.specs.flat_net.View.{NetView}
use Rattle.event_nodes.proofs.flat_net.Places.{one_at}
use Rattle.event_nodes.specs.Adds.{Adds}
use Rattle.event_nodes.specs.declared.error.EventUnfoldError.TheVariants as unfold_error
use Rattle.event_nodes.specs.View.{EventCircuitView}
use Rattle.event_nodes.specs.Visited.{IsWeighed, places_weight}
use Rattle.edbf_unfold.specs.declared.event_literals.event_walk.frames.Frame.{Frame}
use Rattle.std.proofs.lemmas.Option.{slice_get_within}
use Rattle.edbf_unfold.proofs.event_literals.event_walk.walker.EventWalker.count.Goals as goal

pub count-requires-clause-signal : goal.count-requires-clause-signal
count-requires-clause-signal c = subst (λ (n : NetView). c.args.place.1 < length n.drivers) (sym (c.net.ensures ∙ ap (λ (e : EventCircuitView). e.net) c.circuit-circuit.ensures)) c.requires.signal

pub count-requires-clause-weighed : goal.count-requires-clause-weighed
count-requires-clause-weighed c = subst (λ (n : NetView). IsWeighed n c.args.counter.now) (sym (c.net.ensures ∙ ap (λ (e : EventCircuitView). e.net) c.circuit-circuit.ensures)) c.requires.weighed

pub returns-clause-adds : goal.returns-clause-adds
returns-clause-adds c = λ f at.
    subst (λ (g : Frame). Adds (λ (q : ℕ × ℕ). q ≡ (g.node, c.args.place.1)) c.args.counter.now.places c.count.new.self.places)
    (one_at c.args.self.now.frames c.args.place.0 c.frame-node.result f c.frame-node.ensures at) c.count.ensures.adds

pub returns-clause-here : goal.returns-clause-here
returns-clause-here c = λ f at.
    subst (λ (g : Frame). OnOk c.count.result (Contains c.count.new.self.places (g.node, c.args.place.1)))
    (one_at c.args.self.now.frames c.args.place.0 c.frame-node.result f c.frame-node.ensures at) c.count.ensures.here

pub returns-clause-weighed : goal.returns-clause-weighed
returns-clause-weighed c = subst (λ (n : NetView). OnOk c.count.result (IsWeighed n c.count.new.self)) (c.net.ensures ∙ ap (λ (e : EventCircuitView). e.net) c.circuit-circuit.ensures) c.count.ensures.weighed

pub returns-clause-large : goal.returns-clause-large
returns-clause-large c = subst (λ (n : NetView). c.count.result ≡ Err unfold_error.TooLarge → 2000000 < places_weight n c.count.new.self.places) (c.net.ensures ∙ ap (λ (e : EventCircuitView). e.net) c.circuit-circuit.ensures) c.count.ensures.large

pub frame-node-requires : goal.frame-node-requires
frame-node-requires c = slice_get_within c.args.self.now.frames c.args.place.0 c.requires.framed.0 c.requires.framed.1

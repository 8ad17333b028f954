-- An unfolder that has met nothing visits the start.
use Rattle.std.proofs.Common.{◌∙◌, ◌<◌, ℕ, [], length, None, Err, refl, sym, ap, subst, arith}
use Rattle.event_nodes.specs.View.{EventCircuitView}
use Rattle.edbf_unfold.specs.event_literals.event_walk.Walk.{HasCountedStart, IsCounting}
use Rattle.edbf_unfold.specs.event_literals.Known.{IsKnownAt}
use Rattle.edbf_unfold.specs.Care.{IsCareLit}
use Rattle.edbf_unfold.specs.Reached.{IsReachOf}
use Rattle.event_classes.specs.event_functions.Functions.{signal_start}
use Rattle.event_nodes.specs.Visited.{places_weight}
use Rattle.event_nodes.proofs.Growing.{grows_refl, grows_trans}
use Rattle.event_nodes.proofs.Lists.{adds_none}
use Rattle.event_classes.proofs.event_functions.event_reach.Making.{no_nodes}
use Rattle.event_classes.proofs.event_functions.Refusing.{error_is, value_apart}
use Rattle.event_classes.proofs.event_functions.Totaling.{visits_over}
use Rattle.event_classes.proofs.event_functions.Visiting.{fresh_circuit, fresh_known, fresh_ready, counting_on}
use Rattle.event_classes.proofs.event_functions.signals.visit_signal.Goals as goal

pub unfold-requires-clause-signal : goal.unfold-requires-clause-signal
unfold-requires-clause-signal c =
    subst (λ (e : EventCircuitView). c.args.s.0 < length e.net.drivers) (sym (fresh_circuit c.new-unfolder.result c.args.circuit.now c.new-unfolder.ensures.begins)) c.requires.signal

pub unfold-requires-clause-known : goal.unfold-requires-clause-known
unfold-requires-clause-known c =
    fresh_known c.new-unfolder.result c.args.circuit.now c.new-unfolder.ensures.begins c.args.events.now (c.new-unfolder.ensures.known c.args.events.now)

pub unfold-requires-clause-room : goal.unfold-requires-clause-room
unfold-requires-clause-room c =
    fresh_ready c.new-unfolder.result c.args.circuit.now c.new-unfolder.ensures.begins c.args.events.now c.args.visits.now c.requires.none c.in_ok-find_room.ensures.nodes c.in_ok-find_room.ensures.places c.requires.few

pub returns-in-Ok-clause-here : goal.returns-in-Ok-clause-here
returns-in-Ok-clause-here c =
    (subst (λ (e : EventCircuitView). IsKnownAt e c.unfold.new.events None c.args.s.0 [] c.in-Ok.made.value.0) (c.in-Ok.ensures.unfolded.circuit ∙ (fresh_circuit c.new-unfolder.result c.args.circuit.now c.new-unfolder.ensures.begins)) (c.in-Ok.ensures.here).0, subst (λ (e : EventCircuitView). IsCareLit e c.unfold.new.events (signal_start c.args.s.0) c.in-Ok.made.care.0) (c.in-Ok.ensures.unfolded.circuit ∙ (fresh_circuit c.new-unfolder.result c.args.circuit.now c.new-unfolder.ensures.begins)) (c.in-Ok.ensures.here).1)

pub returns-in-Ok-clause-reach : goal.returns-in-Ok-clause-reach
returns-in-Ok-clause-reach c =
    subst (λ (e : EventCircuitView). IsReachOf e c.unfold.new.events.children (signal_start c.args.s.0) c.in-Ok.made.nodes c.in-Ok.made.only_always) (c.in-Ok.ensures.unfolded.circuit ∙ (fresh_circuit c.new-unfolder.result c.args.circuit.now c.new-unfolder.ensures.begins)) c.in-Ok.ensures.reach

pub returns-in-Ok-clause-counted : goal.returns-in-Ok-clause-counted
returns-in-Ok-clause-counted c =
    subst (λ (e : EventCircuitView). HasCountedStart e (signal_start c.args.s.0) c.unfold.new.events.children c.args.visits.now c.unfold.new.counter) (fresh_circuit c.new-unfolder.result c.args.circuit.now c.new-unfolder.ensures.begins) (c.in-Ok.ensures.counted)

pub returns-in-Ok-clause-counting : goal.returns-in-Ok-clause-counting
returns-in-Ok-clause-counting c =
    (subst (λ (e : EventCircuitView). IsCounting e (signal_start c.args.s.0) c.args.events.now.children c.unfold.new.events.children c.args.visits.now c.unfold.new.counter) (fresh_circuit c.new-unfolder.result c.args.circuit.now c.new-unfolder.ensures.begins) c.unfold.ensures.counting.1)

pub returns-in-Ok-clause-grows : goal.returns-in-Ok-clause-grows
returns-in-Ok-clause-grows c = c.unfold.ensures.counting.0

pub returns-in-Ok-clause-places : goal.returns-in-Ok-clause-places
returns-in-Ok-clause-places c =
    omega (arith, c.in-Ok.ensures.unfolded.places, c.in-Ok.ensures.counted.on.weighed.small, c.in_ok-find_room.ensures.places)

pub signal_refusal-requires-clause-many : goal.signal_refusal-requires-clause-many
signal_refusal-requires-clause-many c = λ is. c.in-Err.ensures.refused.many (ap Err is)

pub signal_refusal-requires-clause-large : goal.signal_refusal-requires-clause-large
signal_refusal-requires-clause-large c = λ is. subst (λ (e : EventCircuitView). 2000000 < places_weight e.net c.unfold.new.counter.places) (fresh_circuit c.new-unfolder.result c.args.circuit.now c.new-unfolder.ensures.begins) (c.in-Err.ensures.refused.large (ap Err is))

pub returns-clause-counting : goal.returns-clause-counting
returns-clause-counting c = counting_on c.args.circuit.now (signal_start c.args.s.0) c.args.events.now.children c.unfold.new.events c.signal_refusal.new.events c.args.visits.now c.unfold.new.counter c.signal_refusal.ensures.events.is_tree c.signal_refusal.ensures.grows (subst (λ (e : EventCircuitView). IsCounting e (signal_start c.args.s.0) c.args.events.now.children c.unfold.new.events.children c.args.visits.now c.unfold.new.counter) (fresh_circuit c.new-unfolder.result c.args.circuit.now c.new-unfolder.ensures.begins) c.unfold.ensures.counting.1) (c.signal_refusal.ensures.made)

pub returns-clause-many : goal.returns-clause-many
returns-clause-many c = λ is. c.signal_refusal.ensures.many (error_is is)

pub returns-clause-large : goal.returns-clause-large
returns-clause-large c = λ is. (
  λ starts h. visits_over c.args.circuit.now (signal_start c.args.s.0) c.args.events.now.children c.unfold.new.events.children c.args.visits.now c.unfold.new.counter c.requires.none (subst (λ (e : EventCircuitView). IsCounting e (signal_start c.args.s.0) c.args.events.now.children c.unfold.new.events.children c.args.visits.now c.unfold.new.counter) (fresh_circuit c.new-unfolder.result c.args.circuit.now c.new-unfolder.ensures.begins) c.unfold.ensures.counting.1) c.unfold.new.events c.keeps.ensures.sound c.signal_refusal.ensures.events refl (c.signal_refusal.ensures.large (error_is is)).0 starts h,
  (c.signal_refusal.ensures.large (error_is is)).1,
)

pub returns-in_err-find_room-clause-counting : goal.returns-in_err-find_room-clause-counting
returns-in_err-find_room-clause-counting c = record {
  more = adds_none (λ (q : ℕ × ℕ). Unit {0}) c.args.events.now.children c.args.events.now.children refl;
  nodes = no_nodes c.args.circuit.now c.args.events.now.children (signal_start c.args.s.0);
  counted = λ starts h before. before;
}

pub returns-clause-grows : goal.returns-clause-grows
returns-clause-grows c = grows_trans c.args.events.now c.unfold.new.events c.signal_refusal.new.events c.unfold.ensures.counting.0 c.signal_refusal.ensures.grows

pub returns-in_err-find_room-clause-grows : goal.returns-in_err-find_room-clause-grows
returns-in_err-find_room-clause-grows c = grows_refl c.args.events.now

pub returns-in-Ok-clause-many : goal.returns-in-Ok-clause-many
returns-in-Ok-clause-many c = λ is. value_apart is

pub returns-in-Ok-clause-large : goal.returns-in-Ok-clause-large
returns-in-Ok-clause-large c = λ is. value_apart is

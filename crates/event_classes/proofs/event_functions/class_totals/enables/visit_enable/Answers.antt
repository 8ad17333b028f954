-- An unfolder that has met nothing visits the start.
use Rattle.std.proofs.Common.{◌≡◌, ◌∙◌, ◌<◌, ℕ, [], length, slice_get, Some, Err, refl, sym, ap, subst, arith}
use Rattle.flat_net.proofs.Nets.{some_at}
use Rattle.event_nodes.specs.View.{EventCircuitView}
use Rattle.edbf_unfold.specs.event_literals.event_walk.Walk.{HasCountedStart, IsCounting, enable_start}
use Rattle.edbf_unfold.specs.event_literals.Known.{IsEnableLit}
use Rattle.edbf_unfold.specs.Care.{IsCareLit}
use Rattle.event_nodes.specs.Visited.{places_weight}
use Rattle.event_nodes.proofs.Growing.{grows_refl, grows_trans}
use Rattle.event_nodes.proofs.Lists.{adds_none}
use Rattle.event_classes.proofs.event_functions.event_reach.Making.{no_nodes}
use Rattle.event_classes.proofs.event_functions.Refusing.{error_is, value_apart}
use Rattle.event_classes.proofs.event_functions.Totaling.{visits_over}
use Rattle.event_classes.proofs.event_functions.Visiting.{fresh_circuit, fresh_known, fresh_ready, counting_on}
use Rattle.event_classes.proofs.event_functions.class_totals.enables.visit_enable.Goals as goal

pub enable-requires-clause-latch : goal.enable-requires-clause-latch
enable-requires-clause-latch c =
    subst (λ (e : EventCircuitView). c.args.j < length e.net.latches) (sym (fresh_circuit c.new-unfolder.result c.args.circuit.now c.new-unfolder.ensures.begins)) c.requires.latch

pub enable-requires-clause-known : goal.enable-requires-clause-known
enable-requires-clause-known c =
    fresh_known c.new-unfolder.result c.args.circuit.now c.new-unfolder.ensures.begins c.args.events.now (c.new-unfolder.ensures.known c.args.events.now)

pub enable-requires-clause-room : goal.enable-requires-clause-room
enable-requires-clause-room c =
    fresh_ready c.new-unfolder.result c.args.circuit.now c.new-unfolder.ensures.begins c.args.events.now c.args.visits.now c.requires.none c.in_ok-find_room.ensures.nodes c.in_ok-find_room.ensures.places c.requires.few

pub returns-in-Ok-clause-here : goal.returns-in-Ok-clause-here
returns-in-Ok-clause-here c =
    λ l at. (subst (λ (e : EventCircuitView). IsEnableLit e c.enable.new.events [] l c.in-Ok.made.value.0) (c.in-Ok.ensures.unfolded.circuit ∙ (fresh_circuit c.new-unfolder.result c.args.circuit.now c.new-unfolder.ensures.begins)) (c.in-Ok.ensures.here l (subst (λ (e : EventCircuitView). slice_get e.net.latches c.args.j ≡ Some l) (sym (c.in-Ok.ensures.unfolded.circuit ∙ (fresh_circuit c.new-unfolder.result c.args.circuit.now c.new-unfolder.ensures.begins))) at)).0, subst (λ (e : EventCircuitView). IsCareLit e c.enable.new.events (enable_start l) c.in-Ok.made.care.0) (c.in-Ok.ensures.unfolded.circuit ∙ (fresh_circuit c.new-unfolder.result c.args.circuit.now c.new-unfolder.ensures.begins)) (c.in-Ok.ensures.here l (subst (λ (e : EventCircuitView). slice_get e.net.latches c.args.j ≡ Some l) (sym (c.in-Ok.ensures.unfolded.circuit ∙ (fresh_circuit c.new-unfolder.result c.args.circuit.now c.new-unfolder.ensures.begins))) at)).1)

pub returns-in-Ok-clause-counted : goal.returns-in-Ok-clause-counted
returns-in-Ok-clause-counted c =
    λ l at. subst (λ (e : EventCircuitView). HasCountedStart e (enable_start l) c.enable.new.events.children c.args.visits.now c.enable.new.counter) (fresh_circuit c.new-unfolder.result c.args.circuit.now c.new-unfolder.ensures.begins) (c.in-Ok.ensures.counted l (subst (λ (e : EventCircuitView). slice_get e.net.latches c.args.j ≡ Some l) (sym (fresh_circuit c.new-unfolder.result c.args.circuit.now c.new-unfolder.ensures.begins)) at))

pub returns-in-Ok-clause-counting : goal.returns-in-Ok-clause-counting
returns-in-Ok-clause-counting c =
    λ l at. (subst (λ (e : EventCircuitView). IsCounting e (enable_start l) c.args.events.now.children c.enable.new.events.children c.args.visits.now c.enable.new.counter) (fresh_circuit c.new-unfolder.result c.args.circuit.now c.new-unfolder.ensures.begins) (c.enable.ensures.counting l (subst (λ (e : EventCircuitView). slice_get e.net.latches c.args.j ≡ Some l) (sym (fresh_circuit c.new-unfolder.result c.args.circuit.now c.new-unfolder.ensures.begins)) at)))

pub returns-in-Ok-clause-grows : goal.returns-in-Ok-clause-grows
returns-in-Ok-clause-grows c = c.enable.ensures.grows

pub returns-in-Ok-clause-places : goal.returns-in-Ok-clause-places
returns-in-Ok-clause-places c =
    let lent = fresh_circuit c.new-unfolder.result c.args.circuit.now c.new-unfolder.ensures.begins in
    let l = some_at c.args.circuit.now.net.latches c.args.j c.requires.latch in
    let counted = c.in-Ok.ensures.counted l.0 (subst (λ (e : EventCircuitView). slice_get e.net.latches c.args.j ≡ Some l.0) (sym lent) l.1) in
    omega (arith, c.in-Ok.ensures.unfolded.places, counted.on.weighed.small, c.in_ok-find_room.ensures.places)

pub enable_refusal-requires-clause-many : goal.enable_refusal-requires-clause-many
enable_refusal-requires-clause-many c = λ is. c.in-Err.ensures.refused.many (ap Err is)

pub enable_refusal-requires-clause-large : goal.enable_refusal-requires-clause-large
enable_refusal-requires-clause-large c = λ is. subst (λ (e : EventCircuitView). 2000000 < places_weight e.net c.enable.new.counter.places) (fresh_circuit c.new-unfolder.result c.args.circuit.now c.new-unfolder.ensures.begins) (c.in-Err.ensures.refused.large (ap Err is))

pub returns-clause-counting : goal.returns-clause-counting
returns-clause-counting c = λ l at. counting_on c.args.circuit.now (enable_start l) c.args.events.now.children c.enable.new.events c.enable_refusal.new.events c.args.visits.now c.enable.new.counter c.enable_refusal.ensures.events.is_tree c.enable_refusal.ensures.grows (subst (λ (e : EventCircuitView). IsCounting e (enable_start l) c.args.events.now.children c.enable.new.events.children c.args.visits.now c.enable.new.counter) (fresh_circuit c.new-unfolder.result c.args.circuit.now c.new-unfolder.ensures.begins) (c.enable.ensures.counting l (subst (λ (e : EventCircuitView). slice_get e.net.latches c.args.j ≡ Some l) (sym (fresh_circuit c.new-unfolder.result c.args.circuit.now c.new-unfolder.ensures.begins)) at))) (c.enable_refusal.ensures.made l at)

pub returns-clause-many : goal.returns-clause-many
returns-clause-many c = λ is. c.enable_refusal.ensures.many (error_is is)

pub returns-clause-large : goal.returns-clause-large
returns-clause-large c = λ is l at. (
  λ starts h. visits_over c.args.circuit.now (enable_start l) c.args.events.now.children c.enable.new.events.children c.args.visits.now c.enable.new.counter c.requires.none (subst (λ (e : EventCircuitView). IsCounting e (enable_start l) c.args.events.now.children c.enable.new.events.children c.args.visits.now c.enable.new.counter) (fresh_circuit c.new-unfolder.result c.args.circuit.now c.new-unfolder.ensures.begins) (c.enable.ensures.counting l (subst (λ (e : EventCircuitView). slice_get e.net.latches c.args.j ≡ Some l) (sym (fresh_circuit c.new-unfolder.result c.args.circuit.now c.new-unfolder.ensures.begins)) at))) c.enable.new.events c.keeps.ensures.sound c.enable_refusal.ensures.events refl (c.enable_refusal.ensures.large (error_is is) l at).0 starts h,
  (c.enable_refusal.ensures.large (error_is is) l at).1,
)

pub returns-in_err-find_room-clause-counting : goal.returns-in_err-find_room-clause-counting
returns-in_err-find_room-clause-counting c = λ l at. record {
  more = adds_none (λ (q : ℕ × ℕ). Unit {0}) c.args.events.now.children c.args.events.now.children refl;
  nodes = no_nodes c.args.circuit.now c.args.events.now.children (enable_start l);
  counted = λ starts h before. before;
}

pub returns-clause-grows : goal.returns-clause-grows
returns-clause-grows c = grows_trans c.args.events.now c.enable.new.events c.enable_refusal.new.events c.enable.ensures.grows c.enable_refusal.ensures.grows

pub returns-in_err-find_room-clause-grows : goal.returns-in_err-find_room-clause-grows
returns-in_err-find_room-clause-grows c = grows_refl c.args.events.now

pub returns-in-Ok-clause-many : goal.returns-in-Ok-clause-many
returns-in-Ok-clause-many c = λ is. value_apart is

pub returns-in-Ok-clause-large : goal.returns-in-Ok-clause-large
returns-in-Ok-clause-large c = λ is. value_apart is

-- Each place in its turn.
use Rattle.std.proofs.Common.{◌∙◌, ◌<◌, ◌≤◌, ℕ, length, refl, sym, ap, subst, arith}
use Rattle.std.proofs.lemmas.Option.{slice_get_within}
use Rattle.circuit_theory.proofs.Lists.{All-from_each}
use Rattle.flat_net.proofs.Places.{All-at}
use Rattle.event_nodes.specs.Nodes.{EventGraphView}
use Rattle.event_nodes.proofs.Growing.{grows_refl, grows_trans}
use Rattle.event_nodes.specs.event_variables.Order.{IsOrderOf}
use Rattle.event_nodes.specs.event_variables.Inputs.{AreInputsOf}
use Rattle.event_nodes.proofs.event_variables.Putting.{inputs_first, inputs_next, inputs_within, inputs_all, answered}
use Rattle.event_nodes.proofs.event_variables.visited.visited_variables.Goals as goal

pub loop-number-init : goal.loop-number-init
loop-number-init c = record { inputs = inputs_first c.args.circuit.now c.args.visits.now.places c.args.events.now c.new-found.result.items c.new-found.ensures.items; grows = grows_refl c.args.events.now; few = omega arith; same = refl }

pub put_variable-requires-clause-node : goal.put_variable-requires-clause-node
put_variable-requires-clause-node c =
    let k = All-at (λ (p : ℕ × ℕ). p.0 ≤ length c.args.events.now.children) c.args.visits.now.places c.loop-number.number c.place.result c.place.ensures c.requires.nodes in
    subst (λ (w : EventGraphView). c.place.result.0 ≤ length w.children) (sym c.loop-number.invariant.same) k

pub put_variable-requires-clause-signal : goal.put_variable-requires-clause-signal
put_variable-requires-clause-signal c = All-at (λ (p : ℕ × ℕ). p.1 < length c.args.circuit.now.net.drivers) c.args.visits.now.places c.loop-number.number c.place.result c.place.ensures c.requires.signals

pub put_variable-requires-clause-room : goal.put_variable-requires-clause-room
put_variable-requires-clause-room c = let inside = slice_get_within c.args.visits.now.places c.loop-number.number c.place.result c.place.ensures in omega (arith, inside, c.loop-number.invariant.few, c.requires.room)

pub loop-number-preserved : goal.loop-number-preserved
loop-number-preserved c = record {
  inputs = inputs_next c.args.circuit.now c.args.visits.now.places c.loop-number.events c.put_variable.new.events c.put_variable.ensures.grows c.loop-number.number c.place.result c.loop-number.found.items c.put_variable.new.found.items c.place.ensures c.loop-number.invariant.inputs c.in_ok-put_variable.ensures.put;
  grows = grows_trans c.args.events.now c.loop-number.events c.put_variable.new.events c.loop-number.invariant.grows c.put_variable.ensures.grows;
  few = omega (arith, c.loop-number.invariant.few, c.put_variable.ensures.few);
  same = c.put_variable.ensures.same ∙ ap (λ (w : EventGraphView). record w { places = c.put_variable.new.events.places }) c.loop-number.invariant.same;
}

pub in_order-requires : goal.in_order-requires
in_order-requires c = All-from_each (λ (v : ℕ). v < length c.loop-number.events.places) c.loop-number.found.items (inputs_within c.args.circuit.now c.args.visits.now.places c.loop-number.events c.loop-number.number c.loop-number.found.items c.loop-number.invariant.inputs)

pub returns-clause-variables : goal.returns-clause-variables
returns-clause-variables c =
    answered c.in_order.result (IsOrderOf c.loop-number.events c.loop-number.found.items) (AreInputsOf c.args.circuit.now c.loop-number.events c.args.visits.now.places)
    (λ vars k. record {
      in_order = k.in_order;
      each = λ v h. c.loop-number.invariant.inputs.each v ((k.same v).0 h);
      all = λ p n h numbered. (let v = inputs_all c.args.circuit.now c.args.visits.now.places c.loop-number.events c.loop-number.number c.loop-number.found.items (omega (arith, c.loop-number-test.false, c.len-number-end.ensures)) c.loop-number.invariant.inputs p n h numbered in (v.0, (k.same v.0).1 v.1, v.2));
    }) c.in_order.ensures

pub returns-in_err-put_variable-clause-grows : goal.returns-in_err-put_variable-clause-grows
returns-in_err-put_variable-clause-grows c = grows_trans c.args.events.now c.loop-number.events c.put_variable.new.events c.loop-number.invariant.grows c.put_variable.ensures.grows

pub returns-in_err-put_variable-clause-few : goal.returns-in_err-put_variable-clause-few
returns-in_err-put_variable-clause-few c = let inside = slice_get_within c.args.visits.now.places c.loop-number.number c.place.result c.place.ensures in omega (arith, inside, c.loop-number.invariant.few, c.put_variable.ensures.few)

pub returns-in_err-put_variable-clause-same : goal.returns-in_err-put_variable-clause-same
returns-in_err-put_variable-clause-same c = c.put_variable.ensures.same ∙ ap (λ (w : EventGraphView). record w { places = c.put_variable.new.events.places }) c.loop-number.invariant.same

-- What is known of a care stays while the event graph grows.
use Rattle.std.proofs.Common.{ℕ, arith}
use Rattle.circuit_theory.specs.EventSizes.{Start}
use Rattle.event_nodes.specs.Nodes.{EventGraphView, IsEventGraph, GrowsEvents}
use Rattle.event_nodes.specs.View.{EventCircuitView}
use Rattle.event_nodes.proofs.event_variables.aig.Growth.{Grows-length}
use Rattle.edbf_unfold.specs.Care.{IsCareLit}
use Rattle.edbf_unfold.proofs.Caring.{onward_later, all_later}

pub care_lit_later : (e : EventCircuitView) (w v : EventGraphView) → IsEventGraph w → GrowsEvents w v → (x : Start ℕ) (lit : ℕ) → IsCareLit e w x lit → IsCareLit e v x lit
care_lit_later e w v is grows x lit k = record {
  enables = k.enables;
  each = λ y h. (let o = k.each y h in (o.0, o.1, o.2, onward_later e w v is grows o.0 o.1 y o.3));
  all = λ path u r on. (let o = k.all path u r on in (o.0, o.1, onward_later e w v is grows path u o.0 o.2));
  is = all_later e w v is grows k.enables lit k.is;
  within = let more = Grows-length w.graph v.graph grows.graph in omega (arith, k.within, more);
}

-- A class map that is made keeps what event functions ask for.
use Rattle.std.proofs.Common.{◌≡◌, ◌∙◌, length, sym, ap, subst}
use Rattle.circuit_theory.specs.Depth.{LatchesHaveDepths}
use Rattle.circuit_theory.specs.Classes.{classes_of}
use Rattle.flat_net.specs.View.{NetView, circuit_of}
use Rattle.circuit_theory.specs.Run.{IsEnabled}
use Rattle.event_nodes.specs.View.{EventCircuitView, Enabled}
use Rattle.event_form.specs.event_agreement.pair_events.Enables.{both_of}
use Rattle.event_classes.specs.declared.map.ClassMap.{ClassMap}
use Rattle.event_classes.specs.Map.{IsClassMapOf}
use Rattle.event_form.specs.event_agreement.pair_events.View.{IsEvents}
use Rattle.event_form.specs.event_findings.unshown_pairs.class_events.Made.{events_in}

depths_of : (a e : EventCircuitView) → e ≡ record a { classes = e.classes } → LatchesHaveDepths (circuit_of a.net) (Enabled a) → LatchesHaveDepths (circuit_of e.net) (Enabled e)
depths_of a e same depths = subst (λ (n : NetView). LatchesHaveDepths (circuit_of n) (IsEnabled (circuit_of n))) (sym (ap (λ (x : EventCircuitView). x.net) same)) depths

pub made_events : (a b : EventCircuitView) (m : ClassMap) → LatchesHaveDepths (circuit_of a.net) (Enabled a) → LatchesHaveDepths (circuit_of b.net) (Enabled b) → IsClassMapOf a b m → IsEvents (events_in m)
made_events a b m left right is = record {
  classes = is.classes;
  number = ap (classes_of (both_of m.left m.right)) is.order ∙ is.made.stand.number;
  depths = is.made.depths;
  left_depths = depths_of a m.left is.left left;
  right_depths = depths_of b m.right is.right right;
}

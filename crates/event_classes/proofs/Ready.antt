-- Enables stay ready while the event graph grows.
use Rattle.std.proofs.Common.{◌<◌, ℕ, List, length, get_or, sym, ap, subst, arith, length-append}
use Rattle.std.proofs.lemmas.List.Elements.{All-weaker, All-get_or}
use Rattle.circuit_theory.specs.Query.{Variable}
use Rattle.circuit_theory.specs.Frame.{NodeBefore}
use Rattle.event_nodes.specs.Nodes.{EventGraphView, IsEventGraph, GrowsEvents}
use Rattle.event_nodes.specs.event_variables.Variables.{AreInOrder, variable_of}
use Rattle.class_search.specs.declared.compare.Enable.{Enable}
use Rattle.class_search.specs.Comparing.{IsReadyEnable}
use Rattle.class_search.proofs.Queries.{ready_later}
use Rattle.class_search.proofs.class_separations.Variables.{variable_same}

module _ (w x : EventGraphView) (is : IsEventGraph w) (grows : GrowsEvents w x) where
  order_later : (vars : List ℕ) → AreInOrder w vars → AreInOrder x vars
  order_later vars in_order = record {
    within = All-weaker (λ v. v < length w.places) (λ v. v < length x.places) (λ v h. let e = ap length grows.places.1 in omega (arith, h, e, length-append w.places grows.places.0)) vars in_order.within;
    ordered = λ i j d below inside.
        subst (λ (y : Variable (List ℕ)). NodeBefore y (variable_of x (get_or vars j d))) (sym (variable_same w x is grows (get_or vars i d) (All-get_or (λ v. v < length w.places) vars i d (omega (arith, below, inside)) in_order.within)))
        (subst (NodeBefore (variable_of w (get_or vars i d))) (sym (variable_same w x is grows (get_or vars j d) (All-get_or (λ v. v < length w.places) vars j d inside in_order.within))) (in_order.ordered i j d below inside));
  }

  pub ready_grows : (e : Enable) → IsReadyEnable w e → IsReadyEnable x e
  ready_grows e ready =
      let graph = ready_later w x.graph is grows.graph e ready in
      record { value_within = graph.value_within; care_within = graph.care_within; in_order = order_later e.vars ready.in_order; covers = graph.covers }

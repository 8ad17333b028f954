-- The signals of both examples as event functions, and the pair of the two inputs as it was counted.
use Rattle.std.specs.Prelude.{◌≡◌, ◌⊎◌, true, [], ◌∷◌, ◌++◌}
use Rattle.circuit_theory.specs.Frame.{ConeLatches}
use Rattle.circuit_theory.specs.Joined.{Left, Right}
use Rattle.circuit_theory.specs.Tree.{tree_value}
use Rattle.event_nodes.specs.aig.Values.{value}
use Rattle.event_nodes.specs.Nodes.{EventGraphView, IsEventGraph, GrowsEvents}
use Rattle.event_nodes.specs.Visited.{HoldsNodes}
use Rattle.edbf_unfold.specs.Laws.{TakesFrame}
use Rattle.edbf_unfold.specs.class_queries.Laws.{AreKept}
use Rattle.event_form.specs.Counted.{left_starts, right_starts}
use Rattle.event_form.specs.Functions.{IsFunctionOf, signal_start}
use Rattle.event_form.specs.event_agreement.event_pairs.Functions.{AreNodesOf, IsEventFunction}
use Rattle.event_form.specs.event_agreement.pair_events.Counted.{HaveCounted}
use Rattle.event_form.specs.event_agreement.pair_events.View.{EventsView, IsWithinLimits}
use Rattle.event_form.specs.event_agreement.pair_events.Within.{AreTotalsWithin, IsCountedOnce}
use Rattle.premise_rows.specs.event_outcome_samples.Different.{a_events, b_events, y_pair}
use Rattle.premise_rows.specs.event_pair_premises.Comparable.{at_first}
use Rattle.premise_rows.specs.event_pair_premises.Differing.{at_root}
use Rattle.premise_rows.specs.event_pair_premises.Held.{and_of, both_held, held_nodes, at_load, loads_a, loads_not_a, over_load}

-- with an and more
abbrev pub after_load : EventGraphView
after_load = record at_load { graph = held_nodes ++ and_of 2 4 ∷ [] }

-- What unfolding gives for both outputs are their event functions side by side, also in a later graph; in the frame in which all is 1 that of A has
-- the value of its tree. The event nodes of the pair are the root and its child by class 1.
pub record FunctionsMeetPremises : Type 0 where
  pub kept : AreKept loads_a loads_not_a at_load
  pub left_function : IsFunctionOf loads_a at_load 4 (over_load 10)
  pub right_function : IsFunctionOf loads_not_a at_load 4 (over_load 13)
  pub left_nodes : HoldsNodes loads_a at_load.children (signal_start 4)
  pub right_nodes : HoldsNodes loads_not_a at_load.children (signal_start 4)
  pub later : IsEventGraph after_load
  pub grows : GrowsEvents at_load after_load
  pub takes : TakesFrame at_load (λ i node. true) (λ v. true)
  pub left_is : IsEventFunction both_held at_load (Left 4) (over_load 10)
  pub right_is : IsEventFunction both_held at_load (Right 4) (over_load 13)
  pub left_later : IsEventFunction both_held after_load (Left 4) (over_load 10)
  pub left_value : value held_nodes (λ v. true) 10 ≡ tree_value (λ i node. true) left_is.tree
  pub pair_nodes : AreNodesOf both_held (λ v. ConeLatches both_held.circuit (Left 4) v ⊎ ConeLatches both_held.circuit (Right 4) v) at_load.children (0 ∷ 1 ∷ [])

-- a of A and b of B were counted, each at the root and with the weight 1
abbrev pub at_last : EventsView
at_last = record at_first { events = at_root; left_count = record { places = (0, 0) ∷ []; weight = 1 }; right_count = record { places = (0, 1) ∷ []; weight = 1 } }

-- what was counted is what the pair visits and reaches; so it is within the numbers of the definition
pub record PairIsCounted : Type 0 where
  pub kept : AreKept a_events b_events at_root
  pub once : IsCountedOnce at_last
  pub within : IsWithinLimits at_last
  pub counted : HaveCounted at_last (left_starts (y_pair ∷ [])) (right_starts (y_pair ∷ []))
  pub totals : AreTotalsWithin a_events b_events (left_starts (y_pair ∷ [])) (right_starts (y_pair ∷ []))

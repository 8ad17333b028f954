-- What is counted of the enables of the two latches that load under one input, while these are given their classes.
use Rattle.std.specs.Prelude.{◌≡◌, ℕ, [], ◌∷◌, Some, slice_get, codes}
use Rattle.circuit_theory.specs.Joined.{Left, Right}
use Rattle.sec_base.specs.declared.basics.Init.TheVariants as init
use Rattle.base_tables.specs.Table.{AreDistinct}
use Rattle.flat_net.specs.declared.parts.LatchAt.{LatchAt}
use Rattle.flat_net.specs.Sound.{IsSound}
use Rattle.flat_net.specs.View.{circuit_of}
use Rattle.event_nodes.specs.Adds.{Adds}
use Rattle.event_nodes.specs.Nodes.{IsEventGraph}
use Rattle.event_nodes.specs.Visited.{CounterView, AreNodesFrom, HoldsNodes}
use Rattle.edbf_unfold.specs.event_literals.event_walk.Walk.{IsCounting, HasCountedStart, enable_start}
use Rattle.edbf_unfold.specs.class_queries.Enables.{class_map}
use Rattle.circuit_laws.specs.reset_laws.class_extension.Laws.{IsNextGiven}
use Rattle.event_classes.specs.event_functions.class_totals.Laws.{nothing}
use Rattle.event_classes.specs.event_functions.class_totals.Totals.{HaveCounted, AreWithin, ReachFew}
use Rattle.premise_rows.specs.event_pair_premises.Differing.{at_root}
use Rattle.premise_rows.specs.event_pair_premises.Held.{loads_a, loads_not_a}
use Rattle.premise_rows.specs.event_class_premises.ClassMap.{a_of, b_of, both_latches}

-- the latch of either circuit
abbrev pub q_latch : LatchAt
q_latch = record { name = codes "q"; next = record { 0 = 3 }; out = record { 0 = 2 }; init = init.Unknown }

-- at the root what it takes over, of weight 9, and e, a and itself, of weight 1 each
abbrev pub of_enable : CounterView
of_enable = record { places = (0, 3) ∷ (0, 0) ∷ (0, 1) ∷ (0, 2) ∷ []; weight = 12 }

-- Nothing is counted at first. The enable of A's latch is counted, and it stays so where that latch is given its class; then so is B's. No enable
-- reaches an event node but the root, as neither latch reads another one. So what was counted is within the numbers of the definition.
pub record TotalsMeetPremises : Type 0 where
  pub left_sound : IsSound loads_a.net
  pub right_sound : IsSound loads_not_a.net
  pub left_at : slice_get loads_a.net.latches 0 ≡ Some q_latch
  pub right_at : slice_get loads_not_a.net.latches 0 ≡ Some q_latch
  pub begins : HaveCounted (a_of 0) (b_of 0) [] [] nothing nothing
  pub left_counting : IsCounting (a_of 0) (enable_start q_latch) [] [] nothing of_enable
  pub left_counted : HasCountedStart (a_of 0) (enable_start q_latch) [] nothing of_enable
  pub with_left : HaveCounted (a_of 0) (b_of 0) [] (Left 2 ∷ []) of_enable nothing
  pub left_given : IsNextGiven (circuit_of loads_a.net) (circuit_of loads_not_a.net) 5 5 loads_a.order loads_not_a.order (class_map (a_of 0) (b_of 0)) (class_map (a_of 1) (b_of 0)) [] (Right 2 ∷ []) (Left 2)
  pub left_stays : HaveCounted (a_of 1) (b_of 0) [] (Left 2 ∷ []) of_enable nothing
  pub right_counting : IsCounting (b_of 0) (enable_start q_latch) [] [] nothing of_enable
  pub right_counted : HasCountedStart (b_of 0) (enable_start q_latch) [] nothing of_enable
  pub with_right : HaveCounted (a_of 1) (b_of 0) [] both_latches of_enable of_enable
  pub right_given : IsNextGiven (circuit_of loads_a.net) (circuit_of loads_not_a.net) 5 5 loads_a.order loads_not_a.order (class_map (a_of 1) (b_of 0)) (class_map (a_of 1) (b_of 1)) (Left 2 ∷ []) [] (Right 2)
  pub right_stays : HaveCounted (a_of 1) (b_of 1) [] both_latches of_enable of_enable
  pub events : IsEventGraph at_root
  pub distinct : AreDistinct of_enable.places
  pub within : AreWithin (a_of 1) (b_of 1) both_latches
  pub none_made : Adds (λ (q : ℕ × ℕ). Unit {0}) [] []
  pub no_node : AreNodesFrom (b_of 0) [] (enable_start q_latch) 0
  pub root_alone : HoldsNodes (b_of 0) [] (enable_start q_latch)
  pub few : ReachFew (a_of 1) (b_of 0) both_latches

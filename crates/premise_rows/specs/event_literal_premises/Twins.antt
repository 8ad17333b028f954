-- The enables of the latches of the two circuits with one enabled latch each: the input e, in both.
use Rattle.std.specs.Prelude.{◌≡◌, ◌≢◌, ℕ, [], ◌∷◌, ◌++◌, Contains}
use Rattle.circuit_theory.specs.Depth.{LatchesHaveDepths}
use Rattle.circuit_theory.specs.EventTotals.{IsMapSoFar}
use Rattle.circuit_theory.specs.Joined.{Either, Left, Right}
use Rattle.circuit_theory.specs.Net.{IsNet}
use Rattle.circuit_theory.specs.Run.{IsEnabled}
use Rattle.circuit_laws.specs.event_laws.ClassSteps.{HaveTwinEnables}
use Rattle.flat_net.specs.View.{circuit_of}
use Rattle.event_nodes.specs.Nodes.{GrowsEvents}
use Rattle.event_nodes.specs.View.{EventCircuitView}
use Rattle.edbf_unfold.specs.class_queries.Enables.{both_of, class_map, IsEnableFunction}
use Rattle.edbf_unfold.specs.class_queries.Laws.{AreKept}
use Rattle.premise_rows.specs.event_pair_premises.Differing.{at_root}
use Rattle.premise_rows.specs.event_pair_premises.Held.{loads_a, loads_not_a, both_held, at_load}

-- B's circuit with its latch given a class of its own
abbrev pub of_own_class : EventCircuitView
of_own_class = record loads_not_a { classes = 2 ∷ [] }

-- One literal is that of both enables, and the care of both is 1: they are twins. A's latch is taken, and B's is the next one: whatever class it is
-- given the literal stays that of its enable, also in a later graph.
pub record TwinsMeetPremises : Type 0 where
  pub kept : AreKept loads_a loads_not_a at_root
  pub left_is : IsEnableFunction both_held at_root (Left 2) 2 1
  pub right_is : IsEnableFunction both_held at_root (Right 2) 2 1
  pub twins : HaveTwinEnables both_held (Right 2) (Left 2)
  pub left_net : IsNet (circuit_of loads_a.net) 5
  pub right_net : IsNet (circuit_of loads_not_a.net) 5
  pub depths : LatchesHaveDepths both_held.circuit (IsEnabled both_held.circuit)
  pub so_far : IsMapSoFar both_held (Left 2 ∷ []) (Right 2 ∷ [])
  pub others_keep : (u : Either ℕ ℕ) → u ≢ Right 2 → both_held.class u ≡ class_map loads_a of_own_class u
  pub is_next : Contains {X = Either ℕ ℕ} ((Left 2 ∷ []) ++ Right 2 ∷ []) (Right 2)
  pub stays : IsEnableFunction (both_of loads_a of_own_class) at_root (Right 2) 2 1
  pub grows : GrowsEvents at_root at_load
  pub later : IsEnableFunction both_held at_load (Right 2) 2 1

-- Two circuits whose latches load under one input, from the class map in which none has a class to that in which both have class 1.
use Rattle.std.specs.Prelude.{◌≡◌, ℕ, List, [], ◌∷◌, map, All}
use Rattle.circuit_theory.specs.declared.Side.TheVariants.{A, B}
use Rattle.circuit_theory.specs.Depth.{LatchesHaveDepths}
use Rattle.circuit_theory.specs.Joined.{Either, Left, Right}
use Rattle.circuit_theory.specs.Run.{IsEnabled}
use Rattle.circuit_theory.specs.Frame.{EventSide}
use Rattle.circuit_theory.specs.EventTotals.{IsMapSoFar}
use Rattle.circuit_laws.specs.event_laws.ClassSteps.{IsFirstFit}
use Rattle.flat_net.specs.Sound.{IsSound}
use Rattle.flat_net.specs.View.{circuit_of}
use Rattle.sec_base.specs.declared.basics.Tag.{Tag}
use Rattle.event_nodes.specs.View.{EventCircuitView, IsEventCircuit}
use Rattle.edbf_unfold.specs.class_queries.Enables.{both_of}
use Rattle.class_search.specs.event_order.Order.{place_of, IsTagOrder}
use Rattle.class_search.specs.class_fits.class_joining.Joining.{HasJoined}
use Rattle.premise_rows.specs.event_pair_premises.Held.{loads_a, loads_not_a}

-- the circuits, each with this class for its latch: under e, A's loads a, and B's the complement of a
abbrev pub a_of : ℕ → EventCircuitView
a_of k = record loads_a { classes = k ∷ [] }

abbrev pub b_of : ℕ → EventCircuitView
b_of k = record loads_not_a { classes = k ∷ [] }

abbrev pub so_far : ℕ → ℕ → EventSide (Either ℕ ℕ)
so_far j k = both_of (a_of j) (b_of k)

-- A's latch, and B's
abbrev pub a_tag : Tag
a_tag = record { side = A; latch = 0 }

abbrev pub b_tag : Tag
b_tag = record { side = B; latch = 0 }

abbrev pub at_tag : Tag → Either ℕ ℕ
at_tag t = place_of loads_a.net loads_not_a.net t

abbrev pub both_latches : List (Either ℕ ℕ)
both_latches = Left 2 ∷ Right 2 ∷ []

-- The map begins where both are of class 0. A's latch founds class 1, which is its first fit as its enable isn't always 1; B's latch, whose enable
-- is that of A's, joins it. There the map ends.
pub record ClassMapMeetsPremises : Type 0 where
  pub left_sound : IsSound loads_a.net
  pub right_sound : IsSound loads_not_a.net
  pub left_depths : LatchesHaveDepths (circuit_of loads_a.net) (IsEnabled (circuit_of loads_a.net))
  pub right_depths : LatchesHaveDepths (circuit_of loads_not_a.net) (IsEnabled (circuit_of loads_not_a.net))
  pub depths : (j k : ℕ) → LatchesHaveDepths (so_far j k).circuit (IsEnabled (so_far j k).circuit)
  pub left_circuit : (k : ℕ) → IsEventCircuit (a_of k)
  pub right_circuit : (k : ℕ) → IsEventCircuit (b_of k)
  pub order : IsTagOrder loads_a.net loads_not_a.net (a_tag ∷ b_tag ∷ [])
  pub left_none : All (λ (k : ℕ). k ≡ 0) (a_of 0).classes
  pub right_none : All (λ (k : ℕ). k ≡ 0) (b_of 0).classes
  pub begins : IsMapSoFar (so_far 0 0) [] (map at_tag (a_tag ∷ b_tag ∷ []))
  pub founds : IsFirstFit (so_far 0 0) [] (Left 2) 1
  pub founded : HasJoined (a_of 0) (b_of 0) (a_of 1) (b_of 0) [] (Right 2 ∷ []) (Left 2) 1
  pub goes_on : IsMapSoFar (so_far 1 0) (Left 2 ∷ []) (Right 2 ∷ [])
  pub joins : IsFirstFit (so_far 1 0) (Left 2 ∷ []) (Right 2) 1
  pub joined : HasJoined (a_of 1) (b_of 0) (a_of 1) (b_of 1) (Left 2 ∷ []) [] (Right 2) 1
  pub ends : IsMapSoFar (so_far 1 1) both_latches []

-- What the unfoldings of a circuit have visited so far, by the numbers of event nodes, and what is counted of it.
use Rattle.std.specs.Prelude.{◌≡◌, ℕ, ◌<◌, ◌≤◌, List, [], ◌∷◌, length, slice_get, Option, Some, All, Contains}
use Rattle.std.specs.List.{sum_by}
use Rattle.flat_net.specs.circuit_theory.Frame.{IsNode}
use Rattle.flat_net.specs.circuit_theory.EventSizes.{Start, EventVisits}
use Rattle.flat_net.specs.circuit_theory.EventTotals.{StartLatches}
use Rattle.flat_net.specs.View.{NetView}
use Rattle.event_nodes.specs.Nodes.{path_of}
use Rattle.event_nodes.specs.Reach.{IsListedAt}
use Rattle.event_nodes.specs.View.{EventCircuitView, side_of, Enabled}
use Rattle.flat_net.specs.Weights.{weight_at}

-- what is counted: pairs of an event node and a signal, and what they weigh
pub record CounterView : Type 0 where
  pub places : List (ℕ × ℕ)
  pub weight : ℕ

-- what places weigh together
abbrev pub places_weight : NetView → List (ℕ × ℕ) → ℕ
places_weight n places = sum_by (λ p. weight_at n p.1) places

-- the number is what the places weigh, and is within the limit
pub record IsWeighed (n : NetView) (c : CounterView) : Type 0 where
  pub sum : places_weight n c.places ≡ c.weight
  pub small : c.weight ≤ 2000000
  pub few : length c.places ≤ c.weight

-- the starts visit the signal at the node
pub record IsVisitedPair (e : EventCircuitView) (children : List (ℕ × ℕ)) (starts : List (Start ℕ)) (p : ℕ × ℕ) : Type 0 where
  pub node : p.0 ≤ length children
  pub within : p.1 < length e.net.drivers
  pub out : Option ℕ
  pub visit : EventVisits (side_of e) (Enabled e) starts out p.1 (path_of children p.0)

-- each signal that the start visits at a node is among these
abbrev pub HoldsVisits : EventCircuitView → List (ℕ × ℕ) → Start ℕ → List (ℕ × ℕ) → Type 0
HoldsVisits e children x places = (out : Option ℕ) (q : ℕ) (path : List ℕ) → EventVisits (side_of e) (Enabled e) (x ∷ []) out q path → IsListedAt children places path q

-- what has been counted is what the starts visit
pub record HasCounted (e : EventCircuitView) (children : List (ℕ × ℕ)) (starts : List (Start ℕ)) (c : CounterView) : Type 0 where
  pub weighed : IsWeighed e.net c
  pub only : All (IsVisitedPair e children starts) c.places
  pub all : (x : Start ℕ) → Contains starts x → HoldsVisits e children x c.places

-- the entries from this one on are nodes that the start reaches
abbrev pub AreNodesFrom : EventCircuitView → List (ℕ × ℕ) → Start ℕ → ℕ → Type 0
AreNodesFrom e children x from =
    (k n class : ℕ) → from ≤ k → slice_get children k ≡ Some (n, class) → IsNode (side_of e) (Enabled e) (StartLatches (side_of e) (x ∷ [])) (class ∷ path_of children n)

-- each node that the start reaches was made
abbrev pub HoldsNodes : EventCircuitView → List (ℕ × ℕ) → Start ℕ → Type 0
HoldsNodes e children x = (path : List ℕ) → IsNode (side_of e) (Enabled e) (StartLatches (side_of e) (x ∷ [])) path → (n : ℕ) × (n ≤ length children) × (path_of children n ≡ path)

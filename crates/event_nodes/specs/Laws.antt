-- What follows from what has been counted.
use Rattle.std.specs.Prelude.{ℕ, ◌<◌, List, All}
use Rattle.flat_net.specs.circuit_theory.EventSizes.{Start, IsEventWeight, IsEventOver}
use Rattle.flat_net.specs.Table.{AreDistinct}
use Rattle.flat_net.specs.Sound.{IsSound}
use Rattle.event_nodes.specs.Nodes.{EventGraphView, IsEventGraph}
use Rattle.event_nodes.specs.View.{EventCircuitView, side_of, Enabled}
use Rattle.event_nodes.specs.Visited.{CounterView, IsVisitedPair, HasCounted, places_weight}

-- What is counted is the event weight of the starts so far.
abbrev pub CountedIsWeight : Type 0
CountedIsWeight = (e : EventCircuitView) (w : EventGraphView) (starts : List (Start ℕ)) (c : CounterView) → IsSound e.net → IsEventGraph w → AreDistinct c.places → HasCounted e w.children starts c → IsEventWeight (side_of e) (Enabled e) starts c.weight

-- Where distinct places that the starts visit weigh more than a number, so does their unfolding.
abbrev pub PassedIsOver : Type 0
PassedIsOver = (e : EventCircuitView) (w : EventGraphView) (starts : List (Start ℕ)) (places : List (ℕ × ℕ)) (cap : ℕ) → IsSound e.net → IsEventGraph w → AreDistinct places → All (IsVisitedPair e w.children starts) places → cap < places_weight e.net places →
    IsEventOver (side_of e) (Enabled e) starts cap

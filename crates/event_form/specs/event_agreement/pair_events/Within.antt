-- When all that some starts visit and reach is within the numbers of the definition.
use Rattle.std.specs.Prelude.{ℕ, ◌≤◌, List}
use Rattle.circuit_theory.specs.EventSizes.{Start, IsEventWeight}
use Rattle.circuit_theory.specs.EventTotals.{IsNodesWithin}
use Rattle.class_search.specs.event_nodes.Table.{AreDistinct}
use Rattle.event_nodes.specs.View.{EventCircuitView, side_of, Enabled}
use Rattle.edbf_unfold.specs.class_queries.Enables.{both_of}
use Rattle.edbf_unfold.specs.class_queries.Laws.{AreKept}
use Rattle.event_form.specs.event_agreement.pair_events.Counted.{both_starts, HaveCounted}
use Rattle.event_form.specs.event_agreement.pair_events.View.{EventsView, IsWithinLimits}

-- no more than 10,000 event nodes are reached, and no more weight than 2,000,000 is visited in each circuit
pub record AreTotalsWithin (a b : EventCircuitView) (lefts rights : List (Start ℕ)) : Type 0 where
  pub few : IsNodesWithin (both_of a b) (both_starts lefts rights) 10000
  pub left : ℕ
  pub left_is : IsEventWeight (side_of a) (Enabled a) lefts left
  pub left_small : left ≤ 2000000
  pub right : ℕ
  pub right_is : IsEventWeight (side_of b) (Enabled b) rights right
  pub right_small : right ≤ 2000000

-- no place is counted twice
pub record IsCountedOnce (e : EventsView) : Type 0 where
  pub left : AreDistinct e.left_count.places
  pub right : AreDistinct e.right_count.places

-- What was counted is within the limits, and so is what the starts visit and reach of which it was counted.
abbrev pub CountedIsWithin : Type 0
CountedIsWithin = (e : EventsView) (left right : List (Start ℕ)) → AreKept e.left e.right e.events → IsCountedOnce e → IsWithinLimits e → HaveCounted e left right → AreTotalsWithin e.left e.right left right

-- What a contract sees of two circuits whose latches have their classes, over one event graph.
use Rattle.std.specs.Prelude.{◌≡◌, ℕ, ◌<◌, List, ◌∷◌, ◌++◌, length, map, slice_get, Option, Some, None, Contains}
use Rattle.circuit_theory.specs.declared.Side.{Side}
use Rattle.circuit_theory.specs.declared.Side.TheVariants.{A, B}
use Rattle.circuit_theory.specs.Depth.{LatchesHaveDepths}
use Rattle.circuit_theory.specs.Joined.{Either, Left, Right}
use Rattle.circuit_theory.specs.Run.{IsEnabled}
use Rattle.circuit_theory.specs.Classes.{HasClasses, classes_of}
use Rattle.circuit_theory.specs.EventSizes.{Start}
use Rattle.circuit_theory.specs.EventTotals.{StartLatches}
use Rattle.circuit_theory.specs.Frame.{EventSide, IsNode}
use Rattle.class_search.specs.flat_net.View.{circuit_of}
use Rattle.event_nodes.specs.Nodes.{EventGraphView, path_of}
use Rattle.event_nodes.specs.View.{EventCircuitView, Enabled}
use Rattle.event_nodes.specs.Visited.{CounterView, HasCounted, HoldsNodes, IsWeighed}
use Rattle.edbf_unfold.specs.class_queries.Enables.{both_of}

pub record EventsView : Type 0 where
  pub left : EventCircuitView
  pub right : EventCircuitView
  pub events : EventGraphView
  -- what the unfoldings of each circuit have visited
  pub left_count : CounterView
  pub right_count : CounterView
  -- how many classes there are besides `always`
  pub count : ℕ

-- the two circuits side by side as the event form sees them
abbrev pub side_of_both : EventsView → EventSide (Either ℕ ℕ)
side_of_both e = both_of e.left e.right

-- a signal of one of the circuits, as a place of both
abbrev pub signal_at : Side → ℕ → Either ℕ ℕ
signal_at A p = Left p
signal_at B q = Right q

-- one of the circuits
abbrev pub circuit_at : Side → EventsView → EventCircuitView
circuit_at A e = e.left
circuit_at B e = e.right

-- what each such value keeps: its classes are the class map of both circuits, and no cycle of latches is left but self-edges of enabled ones
pub record IsEvents (e : EventsView) : Type 0 where
  pub classes : HasClasses (side_of_both e)
  pub number : classes_of (side_of_both e) classes.order ≡ e.count
  pub depths : LatchesHaveDepths (side_of_both e).circuit (IsEnabled (side_of_both e).circuit)
  pub left_depths : LatchesHaveDepths (circuit_of e.left.net) (Enabled e.left)
  pub right_depths : LatchesHaveDepths (circuit_of e.right.net) (Enabled e.right)

abbrev pub moved_latch : {P R : Type 0} → (P → R) → Option P → Option R
moved_latch f None = None
moved_latch f (Some u) = Some (f u)

-- a start of one circuit, where it stands beside the other
abbrev pub moved_start : {P R : Type 0} → (P → R) → Start P → Start R
moved_start f x = record { place = f x.place; left_out = moved_latch f x.left_out }

-- the starts of both circuits
abbrev pub both_starts : List (Start ℕ) → List (Start ℕ) → List (Start (Either ℕ ℕ))
both_starts left right = map (moved_start Left) left ++ map (moved_start Right) right

-- What has been counted is what these starts visit, and the event nodes that were made are those that they reach.
pub record HaveCounted (e : EventsView) (left right : List (Start ℕ)) : Type 0 where
  pub left_counted : HasCounted e.left e.events.children left e.left_count
  pub right_counted : HasCounted e.right e.events.children right e.right_count
  pub left_nodes : (x : Start ℕ) → Contains left x → HoldsNodes e.left e.events.children x
  pub right_nodes : (x : Start ℕ) → Contains right x → HoldsNodes e.right e.events.children x
  pub only : (k n class : ℕ) → slice_get e.events.children k ≡ Some (n, class) →
      IsNode (side_of_both e) (IsEnabled (side_of_both e).circuit) (StartLatches (side_of_both e) (both_starts left right)) (class ∷ path_of e.events.children n)

-- what was counted is what some starts visit and reach
pub record IsOfStarts (e : EventsView) : Type 0 where
  pub left : List (Start ℕ)
  pub right : List (Start ℕ)
  pub counted : HaveCounted e left right

-- All that was counted, which is what some starts visit and reach, is within the limits: what each circuit's unfoldings weigh, and the event nodes with
-- the root.
pub record IsWithinLimits (e : EventsView) : Type 0 where
  pub starts : IsOfStarts e
  pub left : IsWeighed e.left.net e.left_count
  pub right : IsWeighed e.right.net e.right_count
  pub nodes : length e.events.children < 10000

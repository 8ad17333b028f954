-- What an unfolding of a signal has met, and what it asks for.
use Rattle.std.specs.Prelude.{◌≡◌, ℕ, ◌<◌, ◌≤◌, List, length, slice_get, Some, All, Contains}
use Rattle.circuit_theory.specs.EventSizes.{Start}
use Rattle.event_nodes.specs.Nodes.{EventGraphView}
use Rattle.event_nodes.specs.Visited.{CounterView, IsWeighed}
use Rattle.edbf_unfold.specs.declared.event_literals.event_walk.frames.Frame.{Frame}
use Rattle.edbf_unfold.specs.declared.event_literals.event_walk.frames.Ways.{Ways}
use Rattle.edbf_unfold.specs.event_literals.event_walk.Ready.{IsReadyBy}
use Rattle.edbf_unfold.specs.event_literals.event_walk.Walk.{IsExpanded, IsVisitedPlace, IsCounted, IsRootOf}
use Rattle.edbf_unfold.specs.event_literals.Known.{EventUnfolderView, HasRoomFor, IsMet}

-- there is room for 15 nodes for each unit of the greatest weight, and two, and the numbers are within their limits
pub record IsReadyFor (u : EventUnfolderView) (w : EventGraphView) (c : CounterView) : Type 0 where
  pub has : HasRoomFor u w 30000002
  pub weighed : IsWeighed u.circuit.net c
  pub few : length w.children < 10000

-- all places of the table have been met, and so has what each of them reads and takes over
pub record AreMetOn (u : EventUnfolderView) (children : List (ℕ × ℕ)) (table : List (ℕ × ℕ)) (ways : List Ways) : Type 0 where
  pub each : length ways ≡ length table
  pub ready : (i : ℕ) (p : ℕ × ℕ) (g : Ways) → slice_get table i ≡ Some p → slice_get ways i ≡ Some g →
      IsReadyBy u.circuit u.frames children (IsMet u.memo) (record { rank = 0; signal = p.1; frame = p.0; onward = g.onward; high = g.high })

-- the table holds what the unfolding of the signal in the frame visits, all of which has been met and counted
pub record IsWalked (u : EventUnfolderView) (w : EventGraphView) (frame : Frame) (s : ℕ) (counted : List (ℕ × ℕ)) (cap : ℕ) (table : List (ℕ × ℕ)) (ways : List Ways) : Type 0 where
  pub number : ℕ
  pub at : slice_get u.frames number ≡ Some frame
  pub begins : Contains table (number, s)
  pub each : length ways ≡ length table
  pub few : length table ≤ cap
  pub expanded : (i : ℕ) (p : ℕ × ℕ) (g : Ways) → slice_get table i ≡ Some p → slice_get ways i ≡ Some g → IsExpanded u.circuit u.frames w.children table p g
  pub met : (p : ℕ × ℕ) → Contains table p → IsMet u.memo p
  pub done : (p : ℕ × ℕ) → Contains table p → IsCounted u.frames counted p
  pub visits : (x : Start ℕ) → IsRootOf frame s x → All (IsVisitedPlace u.circuit u.frames w.children x) table

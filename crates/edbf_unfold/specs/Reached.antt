-- Which event nodes are reached, and whether through latches of class 0 alone.
use Rattle.std.specs.Prelude.{◌≡◌, ◌⊎◌, ◌↔◌, ℕ, ◌<◌, ◌≤◌, Bool, true, List, [], ◌∷◌, ◌++◌, length, slice_get, Some, Contains}
use Rattle.circuit_theory.specs.Circuit.{IsLatch}
use Rattle.circuit_theory.specs.Frame.{NotPut, IsNode, ReachedAt}
use Rattle.circuit_theory.specs.EventSizes.{Start}
use Rattle.circuit_theory.specs.EventTotals.{StartLatches}
use Rattle.edbf_unfold.specs.event_literals.View.{circuit_of}
use Rattle.event_nodes.specs.Nodes.{path_of}
use Rattle.event_nodes.specs.View.{EventCircuitView, side_of, Enabled}
use Rattle.edbf_unfold.specs.declared.event_literals.event_walk.frames.Frame.{Frame}
use Rattle.edbf_unfold.specs.declared.event_literals.event_walk.frames.Ways.{Ways}
use Rattle.edbf_unfold.specs.event_literals.event_walk.Ready.{put_of}

-- a latch drives the place's signal, and isn't the one that is read as a constant in the frame
pub record IsOpenPlace (e : EventCircuitView) (frames : List Frame) (p : ℕ × ℕ) : Type 0 where
  pub frame : Frame
  pub at : slice_get frames p.0 ≡ Some frame
  pub free : NotPut (put_of frame.put) p.1
  pub latch : (name : List ℕ) × (next : ℕ) × IsLatch (circuit_of e.net) name p.1 next

-- the place has a frame and a signal, and where a latch is open there, so has the place where it takes over its data
pub record IsOnwardAt (e : EventCircuitView) (frames : List Frame) (p : ℕ × ℕ) (g : Ways) : Type 0 where
  pub framed : (f : Frame) × (slice_get frames p.0 ≡ Some f)
  pub signal : p.1 < length e.net.drivers
  pub onward : IsOpenPlace e frames p → (f : Frame) × (slice_get frames g.onward ≡ Some f)

-- the node where the place's latch takes over its data was put behind the others, if the latch is open
abbrev pub IsNodePut : EventCircuitView → List Frame → ℕ × ℕ → Ways → List ℕ → List ℕ → Type 0
IsNodePut e frames p g old new = ((IsOpenPlace e frames p → ⊥) × (new ≡ old)) ⊎ (IsOpenPlace e frames p × ((f : Frame) × (slice_get frames g.onward ≡ Some f) × (new ≡ old ++ f.node ∷ [])))

-- the numbers are those of the root and of the nodes where the latches of these places take over their data
pub record AreNodesOf (e : EventCircuitView) (frames : List Frame) (table : List (ℕ × ℕ)) (ways : List Ways) (nodes : List ℕ) : Type 0 where
  pub each : (k : ℕ) → Contains nodes k → (k ≡ 0) ⊎ ((i : ℕ) × (p : ℕ × ℕ) × (g : Ways) × (f : Frame) × (slice_get table i ≡ Some p) × (slice_get ways i ≡ Some g) × IsOpenPlace e frames p × (slice_get frames g.onward ≡ Some f) × (f.node ≡ k))
  pub root : Contains nodes 0
  pub all : (i : ℕ) (p : ℕ × ℕ) (g : Ways) (f : Frame) → slice_get table i ≡ Some p → slice_get ways i ≡ Some g → IsOpenPlace e frames p → slice_get frames g.onward ≡ Some f → Contains nodes f.node

-- exactly the nodes that the start reaches, and whether it reaches latches of class 0 alone
pub record IsReachOf (e : EventCircuitView) (children : List (ℕ × ℕ)) (x : Start ℕ) (nodes : List ℕ) (only : Bool) : Type 0 where
  pub nodes_are : (k : ℕ) → Contains nodes k ↔ ((k ≤ length children) × IsNode (side_of e) (Enabled e) (StartLatches (side_of e) (x ∷ [])) (path_of children k))
  pub only_is : (only ≡ true) ↔ ((path : List ℕ) (v : ℕ) → ReachedAt (side_of e) (Enabled e) (StartLatches (side_of e) (x ∷ [])) path v → (side_of e).class v ≡ 0)

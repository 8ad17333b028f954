-- When a place of a walk can be unfolded: a place is the number of a frame, and a signal.
use Rattle.std.specs.Prelude.{◌≡◌, ◌⊎◌, ℕ, ◌<◌, ◌≤◌, Bool, true, false, List, length, Option, Some, None, slice_get}
use Rattle.circuit_theory.specs.Circuit.{IsLatch, Reads, Reaches}
use Rattle.circuit_theory.specs.Frame.{NotPut}
use Rattle.event_nodes.specs.flat_net.View.{NetView, circuit_of}
use Rattle.edbf_unfold.specs.declared.event_literals.event_walk.frames.Frame.{Frame}
use Rattle.edbf_unfold.specs.declared.event_literals.event_walk.frames.Put.{Put}
use Rattle.edbf_unfold.specs.declared.event_literals.event_walk.frames.Put.TheVariants.{Free, Low, High}
use Rattle.edbf_unfold.specs.declared.event_literals.event_walk.frames.Step.{Step}
use Rattle.event_nodes.specs.Nodes.{IsChild}
use Rattle.event_nodes.specs.View.{EventCircuitView, side_of, Enabled}

-- the latch that is read as a constant, with the bit
abbrev pub put_of : Put → Option (ℕ × Bool)
put_of Free = None
put_of (Low u) = Some (u, false)
put_of (High u) = Some (u, true)

-- what is put beside: the latch as 1 where it is put as 0, and else the same
abbrev pub put_beside : Put → Put
put_beside Free = Free
put_beside (Low u) = High u
put_beside (High u) = High u

-- the frame of the same node with that put
abbrev pub frame_beside : Frame → Frame
frame_beside f = record { node = f.node; put = put_beside f.put }

-- what is put at the child through the latch: the latch itself as 0 if it is enabled
abbrev pub IsOwnPut : EventCircuitView → ℕ → Put → Type 0
IsOwnPut e u put = (Enabled e u × (put ≡ Low u)) ⊎ ((Enabled e u → ⊥) × (put ≡ Free))

-- g is the frame in which the latch u, read in f, takes over its data
pub record IsOnward (e : EventCircuitView) (children : List (ℕ × ℕ)) (u : ℕ) (f g : Frame) : Type 0 where
  pub child : IsChild children f.node ((side_of e).class u) g.node
  pub own : IsOwnPut e u g.put

-- h is the frame beside it with the latch as 1
abbrev pub IsHighOnward : EventCircuitView → List (ℕ × ℕ) → ℕ → Frame → Frame → Type 0
IsHighOnward e children u f h = IsChild children f.node ((side_of e).class u) h.node × (h.put ≡ High u)

-- what a contract sees of a walker
pub record EventWalkerView : Type 0 where
  pub circuit : EventCircuitView
  -- the frames that were met
  pub frames : List Frame

-- The latch that is put, if one is, isn't reached from the signal: so its function there is the one without a latch put.
abbrev pub IsFreeOf : NetView → Put → ℕ → Type 0
IsFreeOf n Free q = Unit {0}
IsFreeOf n (Low u) q = Reaches (circuit_of n) q u → ⊥
IsFreeOf n (High u) q = Reaches (circuit_of n) q u → ⊥

-- The signal reads the latch within the cycle, if that is one and the signal is in the cone of what it takes over.
abbrev pub IsBackOn : NetView → ℕ → ℕ → Type 0
IsBackOn n u q = (name : List ℕ) (next : ℕ) → IsLatch (circuit_of n) name u next → Reaches (circuit_of n) next q → Reaches (circuit_of n) q u

-- the same of the latch that is put, if one is
abbrev pub IsBoundTo : NetView → Put → ℕ → Type 0
IsBoundTo n Free q = Unit {0}
IsBoundTo n (Low u) q = IsBackOn n u q
IsBoundTo n (High u) q = IsBackOn n u q

-- The signal, read in the frame, has been met: in the frame itself, or, if it doesn't reach the latch that is put, in the frame of the same
-- node without one.
abbrev pub IsMetIn : NetView → List Frame → (ℕ × ℕ → Type 0) → Frame → ℕ → ℕ → ℕ → Type 0
IsMetIn n frames Met frame own free q = Met (own, q) ⊎ ((slice_get frames free ≡ Some (record { node = frame.node; put = Free })) × IsFreeOf n frame.put q × Met (free, q))

-- The step can be done, where Met says which places have been met: what its signal reads in its frame has been met, and so has what
-- its latch takes over in the frame onward, and in the frame beside it if the latch is enabled.
pub record IsReadyBy (e : EventCircuitView) (frames : List Frame) (children : List (ℕ × ℕ)) (Met : ℕ × ℕ → Type 0) (step : Step) : Type 0 where
  pub frame : Frame
  pub at : slice_get frames step.frame ≡ Some frame
  pub node : frame.node ≤ length children
  pub within : step.signal < length e.net.drivers
  pub reads : (q : ℕ) → Reads (circuit_of e.net) step.signal q → IsMetIn e.net frames Met frame step.frame step.onward q
  pub onward : (name : List ℕ) (next : ℕ) → IsLatch (circuit_of e.net) name step.signal next → NotPut (put_of frame.put) step.signal →
      (g : Frame) × (slice_get frames step.onward ≡ Some g) × IsOnward e children step.signal frame g × Met (step.onward, next)
  pub high : (name : List ℕ) (next : ℕ) → IsLatch (circuit_of e.net) name step.signal next → NotPut (put_of frame.put) step.signal → Enabled e step.signal →
      (h : Frame) × (slice_get frames step.high ≡ Some h) × IsHighOnward e children step.signal frame h × Met (step.high, next)

-- the place stands among the first steps of the plan
abbrev pub StandsBefore : List Step → ℕ → ℕ × ℕ → Type 0
StandsBefore plan i p = (j : ℕ) × (q : Step) × (j < i) × (slice_get plan j ≡ Some q) × ((q.frame, q.signal) ≡ p)

-- each step of the plan can be done once those before it have been
abbrev pub IsPlan : EventCircuitView → List Frame → List (ℕ × ℕ) → List Step → Type 0
IsPlan e frames children plan = (i : ℕ) (step : Step) → slice_get plan i ≡ Some step → IsReadyBy e frames children (StandsBefore plan i) step

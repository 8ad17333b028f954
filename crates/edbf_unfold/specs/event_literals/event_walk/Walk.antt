-- The walk over the places that an unfolding visits: a place is the number of a frame, and a signal.
use Rattle.std.specs.Prelude.{◌≡◌, ◌⊎◌, ℕ, ◌+◌, ◌*◌, ◌<◌, ◌≤◌, List, [], ◌∷◌, length, slice_get, take, Option, Some, None, Result, Err, All, Contains}
use Rattle.std.specs.List.{sum_by}
use Rattle.circuit_theory.specs.EventSizes.{Start, EventVisits}
use Rattle.circuit_theory.specs.Circuit.{IsLatch, Reaches}
use Rattle.event_nodes.specs.flat_net.Signal.{Signal}
use Rattle.event_nodes.specs.flat_net.LatchAt.{LatchAt}
use Rattle.event_nodes.specs.flat_net.View.{NetView, circuit_of}
use Rattle.event_nodes.specs.declared.error.EventUnfoldError.{EventUnfoldError}
use Rattle.event_nodes.specs.declared.error.EventUnfoldError.TheVariants as unfold_error
use Rattle.event_nodes.specs.Adds.{Adds}
use Rattle.event_nodes.specs.Nodes.{EventGraphView, GrowsEvents, path_of}
use Rattle.event_nodes.specs.View.{EventCircuitView, side_of, Enabled}
use Rattle.event_nodes.specs.Visited.{CounterView, IsWeighed, IsVisitedPair, AreNodesFrom, HoldsVisits, HoldsNodes, places_weight}
use Rattle.event_nodes.specs.flat_net.Weights.{weight_at}
use Rattle.edbf_unfold.specs.declared.event_literals.event_walk.frames.Frame.{Frame}
use Rattle.edbf_unfold.specs.declared.event_literals.event_walk.frames.Put.{Put}
use Rattle.edbf_unfold.specs.declared.event_literals.event_walk.frames.Put.TheVariants.{Free, Low, High}
use Rattle.edbf_unfold.specs.declared.event_literals.event_walk.frames.Ways.{Ways}
use Rattle.edbf_unfold.specs.event_literals.event_walk.Ready.{EventWalkerView, IsReadyBy, IsOwnPut, IsFreeOf, IsBoundTo, IsMetIn}

-- the place has a frame, at an event node that was made, and a signal of the net
abbrev pub IsSeen : EventCircuitView → List Frame → List (ℕ × ℕ) → ℕ × ℕ → Type 0
IsSeen e frames children p = (f : Frame) × (slice_get frames p.0 ≡ Some f) × (f.node ≤ length children) × (p.1 < length e.net.drivers)

-- what the place reads is in the table, and so is what its latch takes over in the frames in which it goes on
abbrev pub IsExpanded : EventCircuitView → List Frame → List (ℕ × ℕ) → List (ℕ × ℕ) → ℕ × ℕ → Ways → Type 0
IsExpanded e frames children table p ways = IsReadyBy e frames children (Contains table) (record { rank = 0; signal = p.1; frame = p.0; onward = ways.onward; high = ways.high })

-- the latch that is read as a constant in the frame
abbrev pub out_of : Put → Option ℕ
out_of Free = None
out_of (Low u) = Some u
out_of (High u) = Some u

-- The frame's latch is the one that is read as a constant in a visit of the signal, or the frame has none and the signal doesn't reach it.
abbrev pub IsFitting : NetView → Put → Option ℕ → ℕ → Type 0
IsFitting n put out q = (out ≡ out_of put) ⊎ ((put ≡ Free) × ((u : ℕ) → out ≡ Some u → Reaches (circuit_of n) q u → ⊥))

-- the unfolding from the start visits the place
pub record IsVisitedPlace (e : EventCircuitView) (frames : List Frame) (children : List (ℕ × ℕ)) (s : Start ℕ) (p : ℕ × ℕ) : Type 0 where
  pub frame : Frame
  pub at : slice_get frames p.0 ≡ Some frame
  pub node : frame.node ≤ length children
  pub out : Option ℕ
  pub fits : IsFitting e.net frame.put out p.1
  pub visit : EventVisits (side_of e) (Enabled e) (s ∷ []) out p.1 (path_of children frame.node)

-- it visits both places
abbrev pub AreVisitedPlaces : EventCircuitView → List Frame → List (ℕ × ℕ) → Start ℕ → ℕ × ℕ → ℕ × ℕ → Type 0
AreVisitedPlaces e frames children s p q = IsVisitedPlace e frames children s p × IsVisitedPlace e frames children s q

-- The signal is in the cone of what the latch takes over, and reads the latch within the cycle.
pub record IsHeldBy (n : NetView) (u q : ℕ) : Type 0 where
  pub name : List ℕ
  pub next : ℕ
  pub latch : IsLatch (circuit_of n) name u next
  pub cone : Reaches (circuit_of n) next q
  pub back : Reaches (circuit_of n) q u

-- the same of the latch that is put, if one is
abbrev pub IsPutFor : NetView → Put → ℕ → Type 0
IsPutFor n Free q = Unit {0}
IsPutFor n (Low u) q = IsHeldBy n u q
IsPutFor n (High u) q = IsHeldBy n u q

-- The place is in one of the two frames where a walk begins, or in one without a latch put, or with one that the signal reads.
abbrev pub IsOwnPlace : NetView → List Frame → ℕ → ℕ → ℕ × ℕ → Type 0
IsOwnPlace n frames root beside p = (p.0 ≡ root) ⊎ ((p.0 ≡ beside) ⊎ ((f : Frame) × (slice_get frames p.0 ≡ Some f) × IsPutFor n f.put p.1))

-- a fan-in in its frame: its own, or the other one if the latch that is put isn't reached from it
abbrev pub IsFrameFor : NetView → Put → ℕ → ℕ → ℕ → ℕ → Type 0
IsFrameFor n put own free q k = ((k ≡ own) × IsBoundTo n put q) ⊎ (IsFreeOf n put q × (k ≡ free))

-- the place is a fan-in in its frame
pub record IsReadAt (n : NetView) (put : Put) (own free : ℕ) (fanins : List Signal) (q : ℕ × ℕ) : Type 0 where
  pub fanin : Signal
  pub reads : Contains fanins fanin
  pub signal : q.1 ≡ fanin.0
  pub frame : IsFrameFor n put own free fanin.0 q.0

-- the fan-in stands in the table in its frame
abbrev pub IsReadIn : NetView → Put → ℕ → ℕ → List (ℕ × ℕ) → Signal → Type 0
IsReadIn n put own free table f = (k : ℕ) × IsFrameFor n put own free f.0 k × Contains table (k, f.0)

-- the place is a fan-in in the frame, or in the one of the same node without a latch put, if the latch that is put isn't reached from it
pub record IsReadPlace (n : NetView) (frames : List Frame) (f : Frame) (own : ℕ) (fanins : List Signal) (q : ℕ × ℕ) : Type 0 where
  pub fanin : Signal
  pub reads : Contains fanins fanin
  pub signal : q.1 ≡ fanin.0
  pub frame : ((q.0 ≡ own) × IsBoundTo n f.put fanin.0) ⊎ ((slice_get frames q.0 ≡ Some (record { node = f.node; put = Free })) × IsFreeOf n f.put fanin.0)

-- the fan-ins stand in the table in the frame, or in the one of the same node without a latch put
abbrev pub AreReadIn : NetView → List Frame → Frame → ℕ → ℕ → List (ℕ × ℕ) → List Signal → Type 0
AreReadIn n frames f own free table fanins = All (λ s. IsMetIn n frames (Contains table) f own free s.0) fanins

-- what is put where the latch takes over its data: an enabled one itself, as 0 or as 1
abbrev pub IsHeldPut : EventCircuitView → ℕ → Put → Type 0
IsHeldPut e u put = (Enabled e u × ((put ≡ Low u) ⊎ (put ≡ High u))) ⊎ ((Enabled e u → ⊥) × (put ≡ Free))

-- the place is where the latch takes over its data, at the child
abbrev pub IsEntry : EventCircuitView → List Frame → ℕ → LatchAt → ℕ × ℕ → Type 0
IsEntry e frames child l q = (f : Frame) × (slice_get frames q.0 ≡ Some f) × (f.node ≡ child) × IsHeldPut e l.out.0 f.put × (q.1 ≡ l.next.0)

-- in these frames the latch takes over its data at the child, and the places are in the table
pub record AreWays (e : EventCircuitView) (frames : List Frame) (table : List (ℕ × ℕ)) (child : ℕ) (l : LatchAt) (ways : Ways) : Type 0 where
  pub onward : Frame
  pub onward_at : slice_get frames ways.onward ≡ Some onward
  pub onward_node : onward.node ≡ child
  pub own : IsOwnPut e l.out.0 onward.put
  pub met : Contains table (ways.onward, l.next.0)
  pub high : Enabled e l.out.0 → (h : Frame) × (slice_get frames ways.high ≡ Some h) × (h.node ≡ child) × (h.put ≡ High l.out.0) × Contains table (ways.high, l.next.0)

-- the walker and the event graph with so many frames and event nodes more at most
pub record IsOpened (u v : EventWalkerView) (w x : EventGraphView) (room : ℕ) : Type 0 where
  pub circuit : v.circuit ≡ u.circuit
  pub frames : Adds (λ f. Unit {0}) u.frames v.frames
  pub grows : GrowsEvents w x
  pub graph : x.graph ≡ w.graph
  pub places : x.places ≡ w.places
  pub few_frames : length v.frames ≤ length u.frames + 2 * room

-- The walk so far, from the root and the place beside it: all places in the table are seen, and the first ones are expanded, each with
-- its ways.
pub record IsWalk (u v : EventWalkerView) (w x : EventGraphView) (root beside : ℕ × ℕ) (table : List (ℕ × ℕ)) (ways : List Ways) (at weight cap : ℕ) : Type 0 where
  pub begins : Contains table root
  pub begins_beside : Contains table beside
  pub seen : All (IsSeen v.circuit v.frames x.children) table
  pub own : All (IsOwnPlace v.circuit.net v.frames root.0 beside.0) table
  pub each : length ways ≡ at
  pub expanded : (i : ℕ) (p : ℕ × ℕ) (g : Ways) → slice_get table i ≡ Some p → slice_get ways i ≡ Some g → IsExpanded v.circuit v.frames x.children table p g
  pub opened : IsOpened u v w x at
  pub inside : at ≤ length table
  pub weighs : sum_by (λ p. weight_at v.circuit.net p.1) (take at table) ≡ weight
  pub few : length table ≤ 2 + 2 * weight
  pub passed : at ≤ weight
  pub small : weight ≤ cap

-- the place has been counted
abbrev pub IsCounted : List Frame → List (ℕ × ℕ) → ℕ × ℕ → Type 0
IsCounted frames counted p = (f : Frame) × (slice_get frames p.0 ≡ Some f) × Contains counted (f.node, p.1)

-- what the start reaches alone has been counted and made more
pub record IsCounting (e : EventCircuitView) (s : Start ℕ) (old new : List (ℕ × ℕ)) (c d : CounterView) : Type 0 where
  pub more : Adds (λ q. Unit {0}) old new
  pub nodes : AreNodesFrom e new s (length old)
  pub counted : (starts : List (Start ℕ)) → Contains starts s → All (IsVisitedPair e old starts) c.places → All (IsVisitedPair e new starts) d.places

-- The count of the walk so far: its places are visited from the start, and the first ones are counted.
pub record IsExact (u v : EventWalkerView) (w x : EventGraphView) (c d : CounterView) (root beside : ℕ × ℕ) (table : List (ℕ × ℕ)) (at : ℕ) : Type 0 where
  pub visits : (s : Start ℕ) → AreVisitedPlaces u.circuit u.frames w.children s root beside → All (IsVisitedPlace v.circuit v.frames x.children s) table
  pub counting : (s : Start ℕ) → AreVisitedPlaces u.circuit u.frames w.children s root beside → IsCounting u.circuit s w.children x.children c d
  pub done : (i : ℕ) (p : ℕ × ℕ) → i < at → slice_get table i ≡ Some p → IsCounted v.frames d.places p
  pub weighed : IsWeighed u.circuit.net d
  pub few : length x.children < 10000
  pub more : Adds (λ q. Unit {0}) c.places d.places

-- What one place more does: frames, event nodes and places are added, which are seen, and visited from a start that visits the place.
pub record IsStep (u v : EventWalkerView) (w x : EventGraphView) (p : ℕ × ℕ) (old new : List (ℕ × ℕ)) : Type 0 where
  pub opened : IsOpened u v w x 1
  pub seen : Adds (IsSeen v.circuit v.frames x.children) old new
  pub own : (root beside : ℕ) → IsOwnPlace u.circuit.net u.frames root beside p → Adds (IsOwnPlace v.circuit.net v.frames root beside) old new
  pub visits : (s : Start ℕ) → IsVisitedPlace u.circuit u.frames w.children s p → Adds (IsVisitedPlace v.circuit v.frames x.children s) old new × AreNodesFrom u.circuit x.children s (length w.children)

-- why it was refused: there are too many event nodes, or what was counted weighs too much
pub record IsRefused {X : Type 0} (n : NetView) (children counted : List (ℕ × ℕ)) (result : Result X EventUnfoldError) : Type 0 where
  pub many : result ≡ Err unfold_error.TooManyEvents → 10000 ≤ length children
  pub large : result ≡ Err unfold_error.TooLarge → 2000000 < places_weight n counted

-- the start begins with the signal in the frame at the root
abbrev pub IsRootOf : Frame → ℕ → Start ℕ → Type 0
IsRootOf f s x = (x.place ≡ s) × (x.left_out ≡ out_of f.put)

-- what is counted is within the limits, and more than before
pub record IsCountedOn (n : NetView) (children : List (ℕ × ℕ)) (c d : CounterView) : Type 0 where
  pub weighed : IsWeighed n d
  pub few : length children < 10000
  pub more : Adds (λ q. Unit {0}) c.places d.places

-- what the start visits is counted, and the nodes that it reaches were made
pub record HasCountedStart (e : EventCircuitView) (x : Start ℕ) (children : List (ℕ × ℕ)) (c d : CounterView) : Type 0 where
  pub on : IsCountedOn e.net children c d
  pub holds : HoldsVisits e children x d.places
  pub nodes : HoldsNodes e children x

-- the start of a latch's enable
abbrev pub enable_start : LatchAt → Start ℕ
enable_start l = record { place = l.next.0; left_out = Some l.out.0 }

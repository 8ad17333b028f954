-- When the literal of a signal at a node is right.
use Rattle.std.specs.Prelude.{◌≡◌, ◌⊎◌, ℕ, ◌+◌, ◌*◌, ◌^◌, ◌<◌, ◌≤◌, Bool, true, false, List, length, map, Option, Some, slice_get, Contains}
use Rattle.std.specs.List.{AllZip}
use Rattle.circuit_theory.specs.Tree.{Tree}
use Rattle.circuit_theory.specs.Frame.{EventUnfolds}
use Rattle.event_nodes.specs.flat_net.Gate.{Gate}
use Rattle.event_nodes.specs.flat_net.LatchAt.{LatchAt}
use Rattle.event_nodes.specs.flat_net.View.{cover_of}
use Rattle.event_nodes.specs.Lit.{Lit}
use Rattle.event_nodes.specs.Node.{Node}
use Rattle.event_nodes.specs.Node.TheVariants.{Input}
use Rattle.event_nodes.specs.Graph.{IsLitOf, flip}
use Rattle.event_nodes.specs.Rules.{IsCoverOf}
use Rattle.event_nodes.specs.Builds.{Builds}
use Rattle.aig.specs.graph_copy.aig_or.ShortOr.{IsShortOr}
use Rattle.edbf_unfold.specs.declared.event_literals.event_walk.frames.Frame.{Frame}
use Rattle.edbf_unfold.specs.declared.event_literals.event_walk.frames.Step.{Step}
use Rattle.edbf_unfold.specs.event_literals.event_walk.Ready.{EventWalkerView, IsReadyBy, put_of}
use Rattle.event_nodes.specs.Adds.{Adds}
use Rattle.event_nodes.specs.Nodes.{EventGraphView, path_of, named_places, GrowsEvents}
use Rattle.event_nodes.specs.View.{EventCircuitView, side_of, Enabled}

-- the literal is that of the signal's tree at the path, under the latch that is put
pub record IsKnownAt (e : EventCircuitView) (w : EventGraphView) (put : Option (ℕ × Bool)) (p : ℕ) (path : List ℕ) (lit : ℕ) : Type 0 where
  pub tree : Tree (List ℕ)
  pub unfolds : EventUnfolds (side_of e) (Enabled e) put p path tree
  pub builds : Builds w.graph (named_places w) tree lit
  pub within : lit < 2 * length w.graph

-- the same in a frame: a node, and the latch that is put there
abbrev pub IsKnownIn : EventCircuitView → EventGraphView → Frame → ℕ → ℕ → Type 0
IsKnownIn e w f p lit = IsKnownAt e w (put_of f.put) p (path_of w.children f.node) lit

-- the literal is that of the latch's enable at the path: the function with the latch at 0, or not that with it at 1
pub record IsEnableLit (e : EventCircuitView) (w : EventGraphView) (path : List ℕ) (l : LatchAt) (lit : ℕ) : Type 0 where
  pub f0 : ℕ
  pub f1 : ℕ
  pub low : IsKnownAt e w (Some (l.out.0, false)) l.next.0 path f0
  pub high : IsKnownAt e w (Some (l.out.0, true)) l.next.0 path f1
  pub or_is : IsShortOr w.graph f0 (flip f1) lit
  pub within : lit < 2 * length w.graph

-- each literal that is kept is right: an entry is the number of a frame and a signal, with the literal
abbrev pub AreKnown : EventCircuitView → EventGraphView → List Frame → List ((ℕ × ℕ) × Lit) → Type 0
AreKnown e w frames memo = (p : ℕ × ℕ) (x : Lit) → Contains memo (p, x) → (f : Frame) × (slice_get frames p.0 ≡ Some f) × (f.node ≤ length w.children) × IsKnownIn e w f p.1 x.0

-- what a contract sees of an unfolder
pub record EventUnfolderView : Type 0 where
  pub circuit : EventCircuitView
  -- the frames that were met
  pub frames : List Frame
  -- the signals that were met in frames, with their literals
  pub memo : List ((ℕ × ℕ) × Lit)

-- an unfolder of a walker, with what was met
abbrev pub unfolder_of : EventWalkerView → List ((ℕ × ℕ) × Lit) → EventUnfolderView
unfolder_of v memo = record { circuit = v.circuit; frames = v.frames; memo = memo }

-- the walker of an unfolder
abbrev pub walker_of : EventUnfolderView → EventWalkerView
walker_of u = record { circuit = u.circuit; frames = u.frames }

-- the place has been met
abbrev pub IsMet : List ((ℕ × ℕ) × Lit) → ℕ × ℕ → Type 0
IsMet memo p = (x : Lit) × Contains memo (p, x)

abbrev pub IsReady : EventUnfolderView → EventGraphView → Step → Type 0
IsReady u w step = IsReadyBy u.circuit u.frames w.children (IsMet u.memo) step

-- the event graph has grown by so much at most, with no new event node
pub record HasGrown (w v : EventGraphView) (room : ℕ) : Type 0 where
  pub grows : GrowsEvents w v
  pub children : v.children ≡ w.children
  pub nodes : length v.graph ≤ length w.graph + room
  pub places : length v.places ≤ length w.places + room

-- the same unfolder later: it has met more, and the event graph has grown by so much at most
pub record IsLater (u v : EventUnfolderView) (w x : EventGraphView) (room : ℕ) : Type 0 where
  pub circuit : v.circuit ≡ u.circuit
  pub frames : v.frames ≡ u.frames
  pub memo : Adds (λ e. Unit {0}) u.memo v.memo
  pub grown : HasGrown w x room

-- the same unfolder after a signal more was unfolded: so much graph more at most
pub record HasUnfolded (u v : EventUnfolderView) (w x : EventGraphView) (room : ℕ) : Type 0 where
  pub circuit : v.circuit ≡ u.circuit
  pub grows : GrowsEvents w x
  pub frames : Adds (λ f. Unit {0}) u.frames v.frames
  pub few_frames : length v.frames ≤ length u.frames + 2 * room + 1
  pub memo : Adds (λ e. Unit {0}) u.memo v.memo
  pub nodes : length x.graph ≤ length w.graph + room
  pub places : length x.places ≤ length w.places + room

-- there is room for so many places more
pub record HasRoomFor (u : EventUnfolderView) (w : EventGraphView) (room : ℕ) : Type 0 where
  pub frames : length u.frames + 2 * room + 4 < 2 ^ 32
  pub nodes : length w.graph + room < 2 ^ 30
  pub places : length w.places + room < 2 ^ 31

-- the literal is the variable of the input with this position at the node
pub record IsInputLit (e : EventCircuitView) (i node : ℕ) (w : EventGraphView) (x : ℕ) : Type 0 where
  pub number : ℕ
  pub at : slice_get e.order i ≡ Some number
  pub variable : ℕ
  pub numbered : slice_get w.places variable ≡ Some (number, node)
  pub lit : IsLitOf w.graph (Input variable) x
  pub within : x < 2 * length w.graph

-- the literal is the one with which the signal was met in the first frame, or, if it wasn't met there, in the second
abbrev pub IsReadLit : List ((ℕ × ℕ) × Lit) → ℕ → ℕ → ℕ → Lit → Type 0
IsReadLit memo own free q y = Contains memo ((own, q), y) ⊎ ((IsMet memo (own, q) → ⊥) × Contains memo ((free, q), y))

-- the literal is the gate's cover of its fan-ins' literals in these frames
pub record IsGateLit (u : EventUnfolderView) (own free j : ℕ) (g : List Node) (x : ℕ) : Type 0 where
  pub gate : Gate
  pub at : slice_get u.circuit.net.gates j ≡ Some gate
  pub lits : List Lit
  pub each : AllZip (λ f y. IsReadLit u.memo own free f.0 y) gate.fanins lits
  pub is : IsCoverOf g (cover_of u.circuit.net.covers gate) (map (λ y. y.0) lits) x
  pub within : x < 2 * length g

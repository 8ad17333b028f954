-- The literal of the care of what a start reaches: the and of the enables of the enabled latches that are reached, each at the child by
-- its class.
use Rattle.std.specs.Prelude.{◌≡◌, ◌⊎◌, ℕ, ◌*◌, ◌<◌, List, [], ◌∷◌, ◌++◌, length, slice_get, Some, Contains}
use Rattle.circuit_theory.specs.Frame.{NotPut, ReachedAt}
use Rattle.circuit_theory.specs.EventSizes.{Start}
use Rattle.edbf_unfold.specs.event_literals.LatchAt.{LatchAt}
use Rattle.edbf_unfold.specs.event_literals.View.{circuit_of}
use Rattle.event_nodes.specs.Node.{Node}
use Rattle.event_nodes.specs.Lit.{Lit}
use Rattle.event_nodes.specs.Graph.{flip}
use Rattle.event_nodes.specs.Rules.{IsAndOf}
use Rattle.event_nodes.specs.Nodes.{EventGraphView, path_of}
use Rattle.event_nodes.specs.Reach.{IsBegun}
use Rattle.event_nodes.specs.View.{EventCircuitView, side_of, Enabled}
use Rattle.edbf_unfold.specs.declared.event_literals.event_walk.frames.Frame.{Frame}
use Rattle.edbf_unfold.specs.event_literals.Known.{IsEnableLit}
use Rattle.edbf_unfold.specs.event_literals.ShortOr.{IsShortOr}
use Rattle.edbf_unfold.specs.event_literals.event_walk.Ready.{put_of}

-- the literal is that of the enable of the latch, an enabled one, at the child of the node by its class
pub record IsEnableOnward (e : EventCircuitView) (w : EventGraphView) (node : List ℕ) (v lit : ℕ) : Type 0 where
  pub position : ℕ
  pub latch : LatchAt
  pub at : slice_get e.net.latches position ≡ Some latch
  pub out : latch.out.0 ≡ v
  pub enabled : Enabled e v
  pub enable : IsEnableLit e w ((side_of e).class v ∷ node) latch lit

-- the place's latch is enabled, and isn't the one that is read as a constant in the frame
pub record IsHeldPlace (e : EventCircuitView) (frames : List Frame) (p : ℕ × ℕ) : Type 0 where
  pub frame : Frame
  pub at : slice_get frames p.0 ≡ Some frame
  pub free : NotPut (put_of frame.put) p.1
  pub enabled : Enabled e p.1

-- the literal is that of the enable of the place's latch
pub record IsPlaceEnable (e : EventCircuitView) (w : EventGraphView) (frames : List Frame) (p : ℕ × ℕ) (lit : ℕ) : Type 0 where
  pub held : IsHeldPlace e frames p
  pub onward : IsEnableOnward e w (path_of w.children held.frame.node) p.1 lit

-- the literal is the and of all these
abbrev pub IsAndOfAll : List Node → List ℕ → ℕ → Type 0
IsAndOfAll g [] x = x ≡ 1
IsAndOfAll g (y ∷ ys) x = (z : ℕ) × IsAndOfAll g ys z × IsAndOf g z y x

-- the literal is the and of the enables of the enabled latches at these places
pub record IsCareOf (e : EventCircuitView) (w : EventGraphView) (frames : List Frame) (places : List (ℕ × ℕ)) (lit : ℕ) : Type 0 where
  pub enables : List ℕ
  pub each : (y : ℕ) → Contains enables y → (p : ℕ × ℕ) × Contains places p × IsPlaceEnable e w frames p y
  pub all : (p : ℕ × ℕ) → Contains places p → IsHeldPlace e frames p → (y : ℕ) × Contains enables y × IsPlaceEnable e w frames p y
  pub is : IsAndOfAll w.graph enables lit
  pub within : lit < 2 * length w.graph

-- the literals are those of the enables of the enabled latches at these places
pub record AreEnablesAt (e : EventCircuitView) (w : EventGraphView) (frames : List Frame) (places : List (ℕ × ℕ)) (enables : List ℕ) : Type 0 where
  pub each : (y : ℕ) → Contains enables y → (p : ℕ × ℕ) × Contains places p × IsPlaceEnable e w frames p y
  pub all : (p : ℕ × ℕ) → Contains places p → IsHeldPlace e frames p → (y : ℕ) × Contains enables y × IsPlaceEnable e w frames p y

-- the enable of one place more stands behind these, if its latch is an enabled one which isn't read as a constant
abbrev pub HasEnable : EventCircuitView → EventGraphView → List Frame → List ℕ → ℕ × ℕ → List ℕ → Type 0
HasEnable e w frames enables p more = ((IsHeldPlace e frames p → ⊥) × (more ≡ enables)) ⊎ ((y : ℕ) × IsPlaceEnable e w frames p y × (more ≡ enables ++ y ∷ []))

-- the literal is that of the enable whose two functions were met at these places
pub record IsEnableBy (memo : List ((ℕ × ℕ) × Lit)) (g : List Node) (low high : ℕ × ℕ) (lit : ℕ) : Type 0 where
  pub f0 : Lit
  pub f1 : Lit
  pub low_met : Contains memo (low, f0)
  pub high_met : Contains memo (high, f1)
  pub or_is : IsShortOr g f0.0 (flip f1.0) lit
  pub within : lit < 2 * length g

-- the literal is the and of all these, in whatever order, each taken once or more often
pub record IsAndOfThese (g : List Node) (lits : List ℕ) (x : ℕ) : Type 0 where
  pub taken : List ℕ
  pub each : (y : ℕ) → Contains taken y → Contains lits y
  pub all : (y : ℕ) → Contains lits y → Contains taken y
  pub is : IsAndOfAll g taken x
  pub within : x < 2 * length g

-- the literal is the care of what the start reaches
pub record IsCareLit (e : EventCircuitView) (w : EventGraphView) (x : Start ℕ) (lit : ℕ) : Type 0 where
  pub enables : List ℕ
  pub each : (y : ℕ) → Contains enables y → (path : List ℕ) × (v : ℕ) × ReachedAt (side_of e) (Enabled e) (IsBegun (circuit_of e.net) x) path v × IsEnableOnward e w path v y
  pub all : (path : List ℕ) (v : ℕ) → ReachedAt (side_of e) (Enabled e) (IsBegun (circuit_of e.net) x) path v → Enabled e v → (y : ℕ) × Contains enables y × IsEnableOnward e w path v y
  pub is : IsAndOfAll w.graph enables lit
  pub within : lit < 2 * length w.graph

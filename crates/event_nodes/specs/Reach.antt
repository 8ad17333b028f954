-- The latches that a start reaches, each at its event nodes: a table of pairs, the number of a node and the signal of a latch.
use Rattle.std.specs.Prelude.{◌≡◌, ℕ, ◌≤◌, List, length, All, Contains}
use Rattle.flat_net.specs.circuit_theory.Circuit.{Circuit, IsLatch}
use Rattle.flat_net.specs.circuit_theory.Frame.{ConeLatches, ConeOthers, ReachedAt}
use Rattle.flat_net.specs.circuit_theory.EventSizes.{Start, IsOther}
use Rattle.flat_net.specs.View.{circuit_of}
use Rattle.event_nodes.specs.Nodes.{IsChild, path_of}
use Rattle.event_nodes.specs.View.{EventCircuitView, side_of, Enabled}

-- the latch is in the cone of the start, and isn't the one that is left out
abbrev pub IsBegun : Circuit ℕ → Start ℕ → ℕ → Type 0
IsBegun c x v = ConeLatches c x.place v × IsOther x.left_out v

-- the pair is a latch that the start reaches, at an event node that was made
pub record IsReachedPlace (e : EventCircuitView) (children : List (ℕ × ℕ)) (x : Start ℕ) (p : ℕ × ℕ) : Type 0 where
  pub node : p.0 ≤ length children
  pub latch : (name : List ℕ) × (next : ℕ) × IsLatch (circuit_of e.net) name p.1 next
  pub reached : ReachedAt (side_of e) (Enabled e) (IsBegun (circuit_of e.net) x) (path_of children p.0) p.1

-- each other latch of its cone is in the table, at the child by its class
abbrev pub IsPassedOn : EventCircuitView → List (ℕ × ℕ) → List (ℕ × ℕ) → ℕ × ℕ → Type 0
IsPassedOn e children table p = (v : ℕ) → ConeOthers (circuit_of e.net) (Enabled e) p.1 v → (m : ℕ) × IsChild children p.0 ((side_of e).class p.1) m × Contains table (m, v)

-- the latch is in the table at the node with this path
pub record IsListedAt (children table : List (ℕ × ℕ)) (path : List ℕ) (v : ℕ) : Type 0 where
  pub node : ℕ
  pub made : node ≤ length children
  pub path_is : path_of children node ≡ path
  pub listed : Contains table (node, v)

-- the table holds exactly the latches that the start reaches, each at its event nodes
pub record AreReachedPlaces (e : EventCircuitView) (children : List (ℕ × ℕ)) (x : Start ℕ) (table : List (ℕ × ℕ)) : Type 0 where
  pub each : All (IsReachedPlace e children x) table
  pub all : (path : List ℕ) (v : ℕ) → ReachedAt (side_of e) (Enabled e) (IsBegun (circuit_of e.net) x) path v → IsListedAt children table path v

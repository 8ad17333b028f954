-- Lists of what is reached: a work list from which care, nodes and counts can be read.
use Rattle.std.specs.Prelude.{◌↔◌, ℕ, List, [], ◌∷◌}
use Rattle.std.specs.List.{Contains}
use Rattle.circuit_theory.specs.Frame.{EventSide, ConeOthers, ReachedAt}

-- a latch at an event node
pub record LatchAtNode (P : Type 0) : Type 0 where
  pub latch : P
  pub node : List ℕ

-- the list holds exactly the latches that are reached, each at its nodes
abbrev pub AreReached : {P : Type 0} → EventSide P → (P → Type 0) → (P → Type 0) → List (LatchAtNode P) → Type 0
AreReached {P} side enabled start list = (node : List ℕ) (v : P) → Contains list (record { latch = v; node = node }) ↔ ReachedAt side enabled start node v

-- the list holds the latches that are reached at the root, and with a latch at a node each other latch of its cone at the child by its class
pub record IsClosed {P : Type 0} (side : EventSide P) (enabled start : P → Type 0) (list : List (LatchAtNode P)) : Type 0 where
  pub roots : (v : P) → start v → Contains list (record { latch = v; node = [] })
  pub children : (u v : P) (node : List ℕ) → Contains list (record { latch = u; node = node }) → ConeOthers side.circuit enabled u v → Contains list (record { latch = v; node = side.class u ∷ node })

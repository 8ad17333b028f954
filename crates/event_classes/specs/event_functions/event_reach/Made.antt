-- Event nodes that were made for latches.
use Rattle.std.specs.Prelude.{ℕ, List}
use Rattle.event_nodes.specs.Nodes.{IsChild}
use Rattle.event_nodes.specs.View.{EventCircuitView, side_of}

-- the child of the place's node by its latch's class was made
abbrev pub HasChild : EventCircuitView → List (ℕ × ℕ) → ℕ × ℕ → Type 0
HasChild e children p = (m : ℕ) × IsChild children p.0 ((side_of e).class p.1) m

-- How a graph and the table of its variables, inputs at shifts, grow while signals are unfolded.
use Rattle.std.specs.Prelude.{◌≡◌, ℕ, ◌+◌, ◌≤◌, List, length, slice_get, Some}
use Rattle.circuit_theory.specs.Query.{Variable}
use Rattle.aig.specs.declared.node.Node.{Node}
pub use Rattle.aig.specs.Builds.{TakesBits}
use Rattle.aig.specs.Graph.{Grows}
use Rattle.aig.specs.Adds.{Adds}

-- the graph and the table have grown by so much at most
pub record HasGrown (g h : List Node) (places more : List (ℕ × ℕ)) (room : ℕ) : Type 0 where
  pub grows : Grows g h
  pub adds : Adds (λ p. Unit {0}) places more
  pub nodes : length h ≤ length g + room
  pub entries : length more ≤ length places + room

-- the number of the variable in the table
abbrev pub IsNumberOf : List (ℕ × ℕ) → ℕ → Variable ℕ → Type 0
IsNumberOf places v x = slice_get places v ≡ Some (x.input, x.at)

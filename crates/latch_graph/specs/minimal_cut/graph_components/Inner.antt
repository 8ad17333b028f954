-- Nodes with those of their readings that can be part of a cycle.
use Rattle.std.specs.Prelude.{◌≡◌, ℕ, ◌≤◌, ◌==◌, List, length, filter, slice_get, slice_index_or, Some}
use Rattle.signal_graph.specs.flat_net.Signal.{Signal}
use Rattle.signal_graph.specs.declared.nodes.Node.{Node}

-- no signal reads one with a greater number
abbrev pub AreRanked : List Node → List ℕ → Type 0
AreRanked nodes labels =
    (s k : ℕ) (node : Node) (r : Signal) → slice_get nodes s ≡ Some node → slice_get node.reads k ≡ Some r → slice_index_or labels r.0 0 ≤ slice_index_or labels s 0

-- exactly the node's readings of signals of this number
abbrev pub IsInnerOf : List ℕ → ℕ → Node → Node → Type 0
IsInnerOf labels label node made = made.reads ≡ filter (λ r. slice_index_or labels r.0 0 == label) node.reads

-- Each signal has exactly its readings of signals of its own number, where no signal reads one with a greater number.
pub record AreInner (nodes inner : List Node) : Type 0 where
  pub labels : List ℕ
  pub ranked : AreRanked nodes labels
  pub size : length inner ≡ length nodes
  pub each : (s : ℕ) (node : Node) → slice_get nodes s ≡ Some node → (made : Node) × (slice_get inner s ≡ Some made) × IsInnerOf labels (slice_index_or labels s 0) node made

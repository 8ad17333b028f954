-- Latches that are chosen from pairs, and when they are a minimal cut of two graphs.
use Rattle.std.specs.Prelude.{ℕ, ◌<◌, ◌⊎◌, List, length, map, slice_index_or, All}
use Rattle.std.specs.List.{AllPairs}
use Rattle.circuit_theory.specs.Depth.{HasCycle, without}
use Rattle.latch_graph.specs.minimal_cut.graph_components.flat_net.LatchAt.{LatchAt}
use Rattle.latch_graph.specs.minimal_cut.graph_components.flat_net.View.{NetView, circuit_of}
use Rattle.latch_graph.specs.minimal_cut.graph_components.flat_net.Cut.{no_latch}
use Rattle.latch_graph.specs.minimal_cut.graph_components.Graph.{GraphView, IsGraphOf, SkippedBy}

-- the numbers at these places
abbrev pub at_places : List ℕ → List ℕ → List ℕ
at_places numbers places = map (λ k. slice_index_or numbers k 0) places

-- the names of the latches at these positions
abbrev pub names_at : List LatchAt → List ℕ → List (List ℕ)
names_at latches positions = map (λ j. (slice_index_or latches j no_latch).name) positions

-- no cycle is left without the latches at these positions, whichever net the graph is of
abbrev pub IsFree : GraphView → List ℕ → Type 0
IsFree g positions = (n : NetView) → IsGraphOf n g → HasCycle (circuit_of n) (SkippedBy g) (names_at g.latches positions) → ⊥

-- The pairs at these places are a minimal cut: no cycle is left without their latches in either graph, and without one pair fewer
-- there is one in one of the graphs.
pub record IsMinimalChoice (a b : GraphView) (left right places : List ℕ) : Type 0 where
  pub increasing : AllPairs (λ j k. j < k) places
  pub within : All (λ k. k < length left) places
  pub left_free : IsFree a (at_places left places)
  pub right_free : IsFree b (at_places right places)
  pub needed : (m n : NetView) → IsGraphOf m a → IsGraphOf n b → (i : ℕ) → i < length places →
      HasCycle (circuit_of m) (SkippedBy a) (without (names_at a.latches (at_places left places)) i)
      ⊎ HasCycle (circuit_of n) (SkippedBy b) (without (names_at b.latches (at_places right places)) i)

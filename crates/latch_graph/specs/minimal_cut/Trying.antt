-- How far the latches of two graphs are tried.
use Rattle.std.specs.Prelude.{◌≡◌, ℕ, ◌+◌, ◌<◌, ◌≤◌, ◌⊎◌, List, length, slice_get, Some, All, Contains}
use Rattle.base_tables.specs.Table.{AreDistinct}
use Rattle.latch_graph.specs.minimal_cut.graph_components.flat_net.View.{NetView}
use Rattle.latch_graph.specs.minimal_cut.graph_components.Node.{Node}
use Rattle.latch_graph.specs.minimal_cut.graph_components.Graph.{GraphView, IsGraphOf, AreNodes}
use Rattle.latch_graph.specs.minimal_cut.graph_components.Inner.{AreInner}
use Rattle.latch_graph.specs.declared.minimal_cut.marks.Mark.{Mark}
use Rattle.latch_graph.specs.minimal_cut.Readers.{WayBack, AreReaders}
use Rattle.latch_graph.specs.minimal_cut.Marks.{IsBlocked, IsBlockedBut, AreMarks, signal_of}

-- a graph with distinct positions of latches, its readings that can be part of a cycle, and these turned round
pub record IsField (g : GraphView) (positions : List ℕ) (inner readers : List Node) : Type 0 where
  pub are : AreNodes g.nodes g.latches
  pub within : All (λ j. j < length g.latches) positions
  pub once : AreDistinct positions
  pub inner_are : AreInner g.nodes inner
  pub readers_are : AreReaders inner readers

-- After the first k positions were tried: the later ones are taken out, and so are those at the places, no other latch is, and no
-- cycle is left.
pub record IsSide (g : GraphView) (positions : List ℕ) (k : ℕ) (places : List ℕ) (marks : List Mark) : Type 0 where
  pub table : AreMarks g.nodes marks (k + 1)
  pub waiting : (i j : ℕ) → k ≤ i → slice_get positions i ≡ Some j → IsBlocked marks (signal_of g.latches j)
  pub exposed : (i p j : ℕ) → slice_get places i ≡ Some p → slice_get positions p ≡ Some j → IsBlocked marks (signal_of g.latches j)
  pub blocked : (s : ℕ) → IsBlocked marks s → (i : ℕ) × (j : ℕ) × (slice_get positions i ≡ Some j) × (signal_of g.latches j ≡ s) × ((k ≤ i) ⊎ Contains places i)
  pub free : (n : NetView) → IsGraphOf n g → (j : ℕ) → j < length g.latches → (IsBlocked marks (signal_of g.latches j) → ⊥) →
      WayBack g.nodes (IsBlocked marks) (signal_of g.latches j) (signal_of g.latches j) → ⊥

-- one of the two latches leads back to itself, if it alone is put back
abbrev pub IsNeeded : GraphView → GraphView → List Mark → List Mark → ℕ → ℕ → Type 0
IsNeeded a b left right j m =
    WayBack a.nodes (IsBlockedBut left (signal_of a.latches j)) (signal_of a.latches j) (signal_of a.latches j)
    ⊎ WayBack b.nodes (IsBlockedBut right (signal_of b.latches m)) (signal_of b.latches m) (signal_of b.latches m)

-- After the first k pairs were tried. The places are those of the pairs that stay taken out, each of which is needed.
pub record AreTried (a b : GraphView) (lefts rights : List ℕ) (k : ℕ) (left right : List Mark) (places : List ℕ) : Type 0 where
  pub on_left : IsSide a lefts k places left
  pub on_right : IsSide b rights k places right
  pub needed : (i p j m : ℕ) → slice_get places i ≡ Some p → slice_get lefts p ≡ Some j → slice_get rights p ≡ Some m → IsNeeded a b left right j m
  pub increasing : (i j p q : ℕ) → i < j → slice_get places i ≡ Some p → slice_get places j ≡ Some q → p < q
  pub below : (i p : ℕ) → slice_get places i ≡ Some p → p < k

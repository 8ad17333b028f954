-- What the marks of the signals of a graph say while latches are tried.
use Rattle.std.specs.Prelude.{◌≡◌, ◌≢◌, ℕ, ◌<◌, ◌⊎◌, Bool, true, false, List, length, slice_get, slice_index_or, Some}
use Rattle.latch_graph.specs.minimal_cut.graph_components.flat_net.LatchAt.{LatchAt}
use Rattle.latch_graph.specs.minimal_cut.graph_components.flat_net.Cut.{no_latch}
use Rattle.latch_graph.specs.minimal_cut.graph_components.Node.{Node}
use Rattle.latch_graph.specs.declared.minimal_cut.marks.Direction.{Direction}
use Rattle.latch_graph.specs.declared.minimal_cut.marks.Direction.TheVariants.{Back}
use Rattle.latch_graph.specs.declared.minimal_cut.marks.Mark.{Mark}
use Rattle.latch_graph.specs.declared.minimal_cut.marks.Mark.TheVariants.{Out, Met}

-- the signal is that of a latch that is taken out
abbrev pub IsBlocked : List Mark → ℕ → Type 0
IsBlocked marks s = slice_get marks s ≡ Some Out

-- the same but for one latch
abbrev pub IsBlockedBut : List Mark → ℕ → ℕ → Type 0
IsBlockedBut marks root s = IsBlocked marks s × (s ≢ root)

-- Before a turn: each signal that isn't that of a latch taken out was met in an earlier turn.
pub record AreMarks (nodes : List Node) (marks : List Mark) (turn : ℕ) : Type 0 where
  pub size : length marks ≡ length nodes
  pub early : (s t : ℕ) (way : Direction) → slice_get marks s ≡ Some (Met way t) → t < turn

-- the same latches are taken out, but for one, which is put back
pub record IsPutBack (old new : List Mark) (root : ℕ) : Type 0 where
  pub stay : (s : ℕ) → s ≢ root → IsBlocked old s → IsBlocked new s
  pub were : (s : ℕ) → IsBlocked new s → IsBlocked old s
  pub back : IsBlocked new root → ⊥

-- the same but for one latch, which stays taken out where it is needed, and else is put back
pub record IsTried (old new : List Mark) (root : ℕ) (needed : Bool) : Type 0 where
  pub stay : (s : ℕ) → s ≢ root → IsBlocked old s → IsBlocked new s
  pub were : (s : ℕ) → s ≢ root → IsBlocked new s → IsBlocked old s
  pub out : needed ≡ true → IsBlocked new root
  pub back : needed ≡ false → IsBlocked new root → ⊥

-- the signal of the latch at the position
abbrev pub signal_of : List LatchAt → ℕ → ℕ
signal_of latches j = (slice_index_or latches j no_latch).out.0

-- The marks before the first turn: of the latches at the first so many of the positions, which are taken out.
pub record AreFirst (latches : List LatchAt) (positions : List ℕ) (count : ℕ) (marks : List Mark) : Type 0 where
  pub from : (s : ℕ) (mark : Mark) → slice_get marks s ≡ Some mark → (mark ≡ Met Back 0) ⊎ ((mark ≡ Out) × (i : ℕ) × (j : ℕ) × (slice_get positions i ≡ Some j) × (signal_of latches j ≡ s))
  pub out : (i j : ℕ) → i < count → slice_get positions i ≡ Some j → IsBlocked marks (signal_of latches j)

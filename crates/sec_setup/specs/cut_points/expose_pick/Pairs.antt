-- The positions of pairs of latches, and a cycle that is left without them.
use Rattle.std.specs.Prelude.{ℕ, ◌<◌, List, length, map, All}
use Rattle.circuit_theory.specs.Depth.{IsCycle, BeginsWithLeast}
use Rattle.latch_graph.specs.flat_net.View.{NetView, circuit_of}
use Rattle.latch_graph.specs.Graph.{GraphView, IsGraphOf, SkippedBy, signals_at}
use Rattle.latch_graph.specs.minimal_cut.Chosen.{names_at}
use Rattle.sec_setup.specs.declared.cut_points.expose_pick.pairs.LatchPair.{LatchPair}

-- the positions in the first circuit
abbrev pub lefts : List LatchPair → List ℕ
lefts pairs = map (λ p. p.left) pairs

-- the positions in the second circuit
abbrev pub rights : List LatchPair → List ℕ
rights pairs = map (λ p. p.right) pairs

-- These latches are a cycle that is left without the latches at the positions: each is in the cone of what the next takes over,
-- the last in that of the first, and no name is before the first one's.
pub record IsLeft (g : GraphView) (positions ids : List ℕ) : Type 0 where
  pub within : All (λ j. j < length g.latches) ids
  pub round : (n : NetView) → IsGraphOf n g → IsCycle (circuit_of n) (SkippedBy g) (names_at g.latches positions) (signals_at g.latches ids)
  pub least : (n : NetView) → IsGraphOf n g → BeginsWithLeast (circuit_of n) (signals_at g.latches ids)

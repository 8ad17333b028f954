-- How a partition begins, is split, and ends.
use Rattle.std.specs.Prelude.{◌≡◌, ℕ, Bool, List, map, slice_get, Some}
use Rattle.circuit_theory.specs.Circuit.{Meets}
use Rattle.circuit_theory.specs.Joined.{Either, joined}
use Rattle.circuit_theory.specs.Blocks.{IsConstantOn, IsCoarsest}
use Rattle.flat_net.specs.View.{NetView, circuit_of}
use Rattle.flat_net.specs.Sound.{IsSound}
use Rattle.block_refine.specs.latch_blocks.Blocks.{block_at, IsByStarts, IsSplit}
use Rattle.block_refine.specs.latch_blocks.Partitions.{block_of, starts_of, nexts_of, IsOnTheWay}

-- The partition by initial values is on the way.
abbrev pub PartitionBegins : Type 0
PartitionBegins = (a b : NetView) → IsSound a → IsSound b → (order blocks : List ℕ) → IsByStarts (starts_of a b) blocks → IsOnTheWay a b order blocks

-- A split by what the latches take over, under values that are constant on the blocks, is on the way.
abbrev pub PartitionSplits : Type 0
PartitionSplits = (a b : NetView) → IsSound a → IsSound b → (order blocks fine : List ℕ) (x : Either ℕ ℕ → Bool) → IsOnTheWay a b order blocks → Meets (joined (circuit_of a) (circuit_of b)) x →
    IsConstantOn (joined (circuit_of a) (circuit_of b)) order (block_of a b blocks) x → IsSplit blocks (map x (nexts_of a b)) fine → IsOnTheWay a b order fine

-- A partition on the way, whose blocks no values that are constant on them split, is the coarsest inductive one.
abbrev pub PartitionEnds : Type 0
PartitionEnds = (a b : NetView) → IsSound a → IsSound b → (order blocks : List ℕ) → IsOnTheWay a b order blocks →
    ((x : Either ℕ ℕ → Bool) → Meets (joined (circuit_of a) (circuit_of b)) x → IsConstantOn (joined (circuit_of a) (circuit_of b)) order (block_of a b blocks) x →
    (i j : ℕ) (p q : Either ℕ ℕ) → slice_get (nexts_of a b) i ≡ Some p → slice_get (nexts_of a b) j ≡ Some q → block_at blocks i ≡ block_at blocks j → x p ≡ x q) →
    IsCoarsest (joined (circuit_of a) (circuit_of b)) order (block_of a b blocks)

-- Partitions of the latches of two nets by a list that has a number for each latch of A and then for each latch of B.
use Rattle.std.specs.Prelude.{◌≡◌, ◌≢◌, ℕ, ◌+◌, List, ◌++◌, length, map, slice_get, Option, Some, None}
use Rattle.circuit_theory.specs.Circuit.{IsLatch}
use Rattle.circuit_theory.specs.Joined.{Either, Left, Right, joined}
use Rattle.sec_base.specs.declared.basics.Init.{Init}
use Rattle.flat_net.specs.declared.parts.Driver.{Driver}
use Rattle.flat_net.specs.declared.parts.Driver.TheVariants as driver
use Rattle.flat_net.specs.declared.parts.LatchAt.{LatchAt}
use Rattle.flat_net.specs.View.{NetView, circuit_of}
use Rattle.circuit_laws.specs.reset_laws.induct_laws.Partitions.{ShareStart, IsCoarser}
use Rattle.block_refine.specs.latch_blocks.Blocks.{block_at, AreInOrder}

-- the block of a latch's signal, where the net's latches stand in the list from this place on; 0 for other signals
abbrev pub block_of_driver : List ℕ → ℕ → Option Driver → ℕ
block_of_driver blocks from None = 0
block_of_driver blocks from (Some (driver.Input i)) = 0
block_of_driver blocks from (Some (driver.Gate j)) = 0
block_of_driver blocks from (Some (driver.Latch j)) = block_at blocks (from + j)

-- the block of a latch of A or of B
abbrev pub block_of : NetView → NetView → List ℕ → Either ℕ ℕ → ℕ
block_of a b blocks (Left s) = block_of_driver blocks 0 (slice_get a.drivers s)
block_of a b blocks (Right s) = block_of_driver blocks (length a.latches) (slice_get b.drivers s)

-- the initial values of all latches, A's first
abbrev pub starts_of : NetView → NetView → List Init
starts_of a b = map (λ (l : LatchAt). l.init) a.latches ++ map (λ (l : LatchAt). l.init) b.latches

-- what all latches take over, A's first
abbrev pub nexts_of : NetView → NetView → List (Either ℕ ℕ)
nexts_of a b = map (λ (l : LatchAt). Left l.next.0) a.latches ++ map (λ (l : LatchAt). Right l.next.0) b.latches

-- A partition on the way to the coarsest inductive one: each inductive partition refines it, and latches of one block start alike.
pub record IsOnTheWay (a b : NetView) (order : List ℕ) (blocks : List ℕ) : Type 0 where
  pub each : length blocks ≡ length a.latches + length b.latches
  pub in_order : AreInOrder blocks
  pub coarser : IsCoarser (joined (circuit_of a) (circuit_of b)) order (block_of a b blocks)
  pub starts : (name name' : List ℕ) (u next v next' : Either ℕ ℕ) → IsLatch (joined (circuit_of a) (circuit_of b)) name u next → IsLatch (joined (circuit_of a) (circuit_of b)) name' v next' → u ≢ v →
      block_of a b blocks u ≡ block_of a b blocks v → ShareStart (joined (circuit_of a) (circuit_of b)) u v

-- A partition of latches as a list that has for each latch the number of its block.
use Rattle.std.specs.Prelude.{◌≡◌, ◌≢◌, ◌↔◌, ℕ, ◌<◌, Bool, false, List, length, slice_index_or}
use Rattle.sec_base.specs.declared.basics.Init.{Init}
use Rattle.sec_base.specs.declared.basics.Init.TheVariants as init

-- the number of the block that the latch at a place is in
abbrev pub block_at : List ℕ → ℕ → ℕ
block_at blocks j = slice_index_or blocks j 0

-- the bit of the latch at a place
abbrev pub bit_at : List Bool → ℕ → Bool
bit_at bits j = slice_index_or bits j false

-- the initial value of the latch at a place
abbrev pub start_at : List Init → ℕ → Init
start_at starts j = slice_index_or starts j init.Zero

-- blocks are numbered from 0 in the order of their first members: each lower number stands before
abbrev pub AreInOrder : List ℕ → Type 0
AreInOrder blocks = (j y : ℕ) → j < length blocks → y < block_at blocks j → (i : ℕ) × (i < j) × (block_at blocks i ≡ y)

-- both start with 0, or both with 1
abbrev pub HaveOneStart : Init → Init → Type 0
HaveOneStart init.Zero init.Zero = Unit {0}
HaveOneStart init.One init.One = Unit {0}
HaveOneStart x y = ⊥

-- Latches of one initial value 0 or 1 are one block, and each other latch is a block of its own.
pub record IsByStarts (starts : List Init) (blocks : List ℕ) : Type 0 where
  pub each : length blocks ≡ length starts
  pub same : (i j : ℕ) → i < length starts → j < length starts → i ≢ j → (block_at blocks i ≡ block_at blocks j) ↔ HaveOneStart (start_at starts i) (start_at starts j)
  pub in_order : AreInOrder blocks

-- Two latches are in one block of the finer partition where they were in one and have one bit.
pub record IsSplit (blocks : List ℕ) (bits : List Bool) (fine : List ℕ) : Type 0 where
  pub each : length fine ≡ length blocks
  pub same : (i j : ℕ) → i < length blocks → j < length blocks → (block_at fine i ≡ block_at fine j) ↔ ((block_at blocks i ≡ block_at blocks j) × (bit_at bits i ≡ bit_at bits j))
  pub in_order : AreInOrder fine

-- Laws of splits.
use Rattle.std.specs.Prelude.{◌≡◌, ◌≢◌, ℕ, suc, zero, ◌+◌, ◌<◌, ◌==◌, if◌then◌else◌, Bool, List, length}
use Rattle.block_refine.specs.latch_blocks.Blocks.{block_at, bit_at, IsSplit}

-- the sum of what is counted at each place below the end
abbrev pub sum_to : (ℕ → ℕ) → ℕ → ℕ
sum_to count zero = 0
sum_to count (suc n) = sum_to count n + count n

-- 1 where the latches at two places are in one block, else 0
abbrev pub is_alike : List ℕ → ℕ → ℕ → ℕ
is_alike blocks i j = if block_at blocks i == block_at blocks j then 1 else 0

-- how many pairs of places have latches of one block
abbrev pub pairs_alike : List ℕ → ℕ
pairs_alike blocks = sum_to (λ i. sum_to (is_alike blocks i) (length blocks)) (length blocks)

-- what is one block of the finer partition is one of the other
abbrev pub SplitRefines : Type 0
SplitRefines = (blocks fine : List ℕ) (bits : List Bool) → IsSplit blocks bits fine → (i j : ℕ) → i < length blocks → j < length blocks → block_at fine i ≡ block_at fine j → block_at blocks i ≡ block_at blocks j

-- A split by bits that tell two latches of one block apart leaves fewer pairs in one block.
abbrev pub SplitHasFewerPairs : Type 0
SplitHasFewerPairs = (blocks fine : List ℕ) (bits : List Bool) → IsSplit blocks bits fine → (i j : ℕ) → i < length blocks → j < length blocks → block_at blocks i ≡ block_at blocks j → bit_at bits i ≢ bit_at bits j →
    pairs_alike fine < pairs_alike blocks

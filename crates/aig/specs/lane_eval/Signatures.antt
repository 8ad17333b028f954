-- Signatures: the values of a graph's nodes under 512 assignments that words tell.
use Rattle.std.specs.Prelude.{◌≡◌, ℕ, ◌+◌, ◌*◌, ◌/◌, ◌%◌, ◌<◌, Bool, List, [], length, slice_index, slice_index_or, All}
use Rattle.aig.specs.declared.node.Node.{Node}
use Rattle.aig.specs.Values.{value}
use Rattle.aig.specs.lane_eval.Blocks.{word_bit, block_bit, IsBlock}

-- assignment k: variable v has bit k of its eight words
abbrev pub word_lane : List ℕ → ℕ → ℕ → Bool
word_lane words k v = word_bit (slice_index words (8 * v + k / 64)) (k % 64)

-- so many blocks, whose bits are the variables' bits
pub record AreWordBlocks (words : List ℕ) (count : ℕ) (blocks : List (List ℕ)) : Type 0 where
  pub each : length blocks ≡ count
  pub sound : All IsBlock blocks
  pub bits : (v k : ℕ) → v < count → k < 512 → block_bit (slice_index_or blocks v []) k ≡ word_lane words k v

-- a block for each node, whose bit k is the node's value under assignment k
pub record AreSignatures (g : List Node) (words : List ℕ) (table : List (List ℕ)) : Type 0 where
  pub each : length table ≡ length g
  pub sound : All IsBlock table
  pub bits : (n k : ℕ) → n < length g → k < 512 → block_bit (slice_index_or table n []) k ≡ value g (word_lane words k) (2 * n)

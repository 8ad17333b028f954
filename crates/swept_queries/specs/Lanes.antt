-- Assignments of a table of signatures, by their numbers.
use Rattle.std.specs.Prelude.{◌≡◌, ◌≢◌, ℕ, ◌/◌, ◌%◌, ◌<◌, ◌==◌, Bool, true, List, [], map, slice_index_or}
use Rattle.swept_queries.specs.sweep.aig.Node.{Node}
use Rattle.swept_queries.specs.sweep.aig.Values.{value}
use Rattle.swept_queries.specs.sweep.lane_eval.Blocks.{block_bit, turned}
use Rattle.swept_queries.specs.sweep.lane_eval.Signatures.{word_lane}
use Rattle.swept_queries.specs.declared.sides.Sides.{Sides}

-- the literal's value under assignment k, by the blocks of the nodes
abbrev pub lit_lane : List (List ℕ) → ℕ → ℕ → Bool
lit_lane table l k = turned (l % 2 == 1) (block_bit (slice_index_or table (l / 2) []) k)

-- assignment k meets the care, and the sides differ there, by the blocks of the nodes
pub record TellsApart (table : List (List ℕ)) (t : Sides) (k : ℕ) : Type 0 where
  pub lane : k < 512
  pub care : lit_lane table t.care.0 k ≡ true
  pub differ : lit_lane table t.left.0 k ≢ lit_lane table t.right.0 k

-- the same by the words of the variables
pub record DiffersAt (g : List Node) (words : List ℕ) (t : Sides) (k : ℕ) : Type 0 where
  pub care : value g (word_lane words k) t.care.0 ≡ true
  pub differ : value g (word_lane words k) t.left.0 ≢ value g (word_lane words k) t.right.0

-- a bit for each variable, as the words have it for assignment k
abbrev pub lane_bits : List ℕ → List ℕ → ℕ → List Bool
lane_bits words vars k = map (word_lane words k) vars

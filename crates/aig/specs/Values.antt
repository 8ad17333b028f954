-- What literals are worth where each variable has a bit.
use Rattle.std.specs.Prelude.{◌≡◌, ℕ, ◌*◌, ◌/◌, ◌%◌, ◌<◌, ◌==◌, Bool, false, not, ◌&&◌, if◌then◌else◌, List, [], ◌∷◌, ◌++◌, length, slice_index_or}
use Rattle.aig.specs.declared.node.Node.{Node}
use Rattle.aig.specs.declared.node.Node.TheVariants.{Constant, Input, And}

-- the literal's bit, where the nodes' bits are these
unfoldable pub lit_bit : List Bool → ℕ → Bool
lit_bit bits x = let bit = slice_index_or bits (x / 2) false in if x % 2 == 0 then bit else not bit

-- the node's bit: 0, its variable's, or the and of its operands'
abbrev pub node_bit : (ℕ → Bool) → List Bool → Node → Bool
node_bit a bits Constant = false
node_bit a bits (Input v) = a v
node_bit a bits (And l r) = lit_bit bits l.0 && lit_bit bits r.0

-- these bits and behind them those of the nodes that follow
unfoldable pub bits_from : (ℕ → Bool) → List Bool → List Node → List Bool
bits_from a bits [] = bits
bits_from a bits (node ∷ nodes) = bits_from a (bits ++ node_bit a bits node ∷ []) nodes

-- the bits of all nodes
unfoldable pub node_bits : List Node → (ℕ → Bool) → List Bool
node_bits g a = bits_from a [] g

-- the literal's value under the assignment
unfoldable pub value : List Node → (ℕ → Bool) → ℕ → Bool
value g a x = lit_bit (node_bits g a) x

-- what a node is worth by its variable or its operands
abbrev pub node_value : List Node → (ℕ → Bool) → Node → Bool
node_value g a Constant = false
node_value g a (Input v) = a v
node_value g a (And l r) = value g a l.0 && value g a r.0

-- the assignment that gives variable v the bit at place v
abbrev pub assigned : List Bool → ℕ → Bool
assigned bits v = slice_index_or bits v false

-- literals made before keep their values
abbrev pub KeepsValues : List Node → List Node → Type 0
KeepsValues g h = (a : ℕ → Bool) (x : ℕ) → x < 2 * length g → value h a x ≡ value g a x

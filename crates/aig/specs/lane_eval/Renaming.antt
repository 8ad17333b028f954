-- The cones of a table's literals over its variables' places, and what all assignments say of them.
use Rattle.std.specs.Prelude.{◌≡◌, ◌≢◌, ℕ, ◌^◌, ◌*◌, ◌<◌, ◌≤◌, Bool, true, not, ◌&&◌, ◌+◌, List, length, slice_get, Some, None, Option, Contains}
use Rattle.aig.specs.circuit_theory.Query.{bits_of}
use Rattle.aig.specs.declared.node.Node.{Node}
use Rattle.aig.specs.declared.node.Node.TheVariants.{Constant, Input, And}
use Rattle.aig.specs.Graph.{IsOrdered, vars_of}
use Rattle.aig.specs.Values.{value, assigned, lit_bit}
use Rattle.aig.specs.declared.lane_eval.table.Table.{Table}

-- the node's variable, if it has one, is in the list
abbrev pub IsCovered : List ℕ → Node → Type 0
IsCovered vars Constant = Unit {0}
IsCovered vars (Input v) = Contains vars v
IsCovered vars (And l r) = Unit {0}

-- each node's
abbrev pub AreCovered : List ℕ → List Node → Type 0
AreCovered vars nodes = (k : ℕ) (node : Node) → slice_get nodes k ≡ Some node → IsCovered vars node

-- the same node, a variable being its place in the list
abbrev pub IsRenamed : List ℕ → Node → Node → Type 0
IsRenamed vars Constant new = new ≡ Constant
IsRenamed vars (Input v) new = (k : ℕ) × (slice_get vars k ≡ Some v) × (new ≡ Input k)
IsRenamed vars (And l r) new = new ≡ And l r

-- operands stand before, the variables are below the number, and the three literals are of the graph
pub record IsSound (t : Table) (count : ℕ) : Type 0 where
  pub ordered : IsOrdered t.nodes.items
  pub vars : vars_of t.nodes.items ≤ count
  pub left : t.left.0 < 2 * length t.nodes.items
  pub right : t.right.0 < 2 * length t.nodes.items
  pub care : t.care.0 < 2 * length t.nodes.items

-- where variable k has bit k, the care holds and the sides differ
pub record TellsApart (t : Table) (bits : List Bool) : Type 0 where
  pub care : value t.nodes.items (assigned bits) t.care.0 ≡ true
  pub differ : value t.nodes.items (assigned bits) t.left.0 ≢ value t.nodes.items (assigned bits) t.right.0

-- no number of so many bits tells the sides apart, or this is the least one that does
abbrev pub IsLeastOf : Table → ℕ → Option ℕ → Type 0
IsLeastOf t count None = (m : ℕ) → m < 2 ^ count → TellsApart t (bits_of m count) → ⊥
IsLeastOf t count (Some number) =
    (number < 2 ^ count) × TellsApart t (bits_of number count) × ((m : ℕ) → m < number → TellsApart t (bits_of m count) → ⊥)

-- none of the 512 numbers from 512 times the block's on tells the sides apart, or this is the first that does
abbrev pub IsFirstOfBlock : Table → ℕ → ℕ → Option ℕ → Type 0
IsFirstOfBlock t count number None = (k : ℕ) → k < 512 → TellsApart t (bits_of (512 * number + k) count) → ⊥
IsFirstOfBlock t count number (Some k) =
    (k < 512) × TellsApart t (bits_of (512 * number + k) count) × ((j : ℕ) → j < k → TellsApart t (bits_of (512 * number + j) count) → ⊥)

-- whether the care holds and the sides differ, by the bits of the nodes
abbrev pub tells_apart : Table → List Bool → Bool
tells_apart t bits =
    let left = lit_bit bits t.left.0 in let right = lit_bit bits t.right.0 in not (not (left && not right) && not (not left && right)) && lit_bit bits t.care.0

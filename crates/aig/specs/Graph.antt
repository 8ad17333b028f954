-- The and-inverter graph as the list of its nodes. A literal is twice a node's number, plus one where it stands for the
-- complement.
use Rattle.std.specs.Prelude.{◌≡◌, ℕ, ◌+◌, ◌-◌, ◌*◌, ◌%◌, ◌^◌, ◌<◌, ◌==◌, max, if◌then◌else◌, List, [], ◌∷◌, ◌++◌, length, slice_get, Some, ⊤}
use Rattle.aig.specs.declared.node.Node.{Node}
use Rattle.aig.specs.declared.node.Node.TheVariants.{Constant, Input, And}

-- the complement of a literal
unfoldable pub flip : ℕ → ℕ
flip x = if x % 2 == 0 then x + 1 else x - 1

-- one more than the greatest variable of these nodes, or 0 without inputs
abbrev pub vars_of : List Node → ℕ
vars_of [] = 0
vars_of (Constant ∷ g) = vars_of g
vars_of (Input v ∷ g) = max (v + 1) (vars_of g)
vars_of (And l r ∷ g) = vars_of g

-- the operands of the node with this number are literals of lower nodes, the lesser first
abbrev pub IsAbove : ℕ → Node → Type 0
IsAbove n Constant = ⊤
IsAbove n (Input v) = ⊤
IsAbove n (And l r) = (l.0 < r.0) × (r.0 < 2 * n)

-- each node's operands stand before it
abbrev pub IsOrdered : List Node → Type 0
IsOrdered g = (n : ℕ) (node : Node) → slice_get g n ≡ Some node → IsAbove n node

-- Node 0 is the constant, operands stand before, and no node stands twice.
pub record IsGraph (g : List Node) : Type 0 where
  pub constant : slice_get g 0 ≡ Some Constant
  pub ordered : IsOrdered g
  pub once : (n m : ℕ) (node : Node) → slice_get g n ≡ Some node → slice_get g m ≡ Some node → n ≡ m
  pub few : length g < 2 ^ 30

-- the graph with more nodes behind
abbrev pub Grows : List Node → List Node → Type 0
Grows g h = (more : List Node) × (h ≡ g ++ more)

-- the literal of a node that stands in the graph
abbrev pub IsLitOf : List Node → Node → ℕ → Type 0
IsLitOf g node x = (n : ℕ) × (x ≡ 2 * n) × (slice_get g n ≡ Some node)

-- The cone of some literals, and the part of the graph that it is.
use Rattle.std.specs.Prelude.{◌≡◌, ◌⊎◌, ℕ, ◌/◌, ◌%◌, ◌<◌, ◌≤◌, ◌==◌, if◌then◌else◌, List, [], ◌∷◌, ◌++◌, length, slice_get, Some, Contains}
use Rattle.std.specs.List.Sorted.{IsStrictlyIncreasing}
use Rattle.std.specs.List.{list_any}
use Rattle.base_tables.specs.Table.{AreDistinct}
use Rattle.aig.specs.declared.node.Lit.{Lit}
use Rattle.aig.specs.declared.node.Node.{Node}
use Rattle.aig.specs.declared.node.Node.TheVariants.{Constant, Input, And}

-- the node reads the literal
abbrev pub Reads : Node → ℕ → Type 0
Reads Constant x = ⊥
Reads (Input v) x = ⊥
Reads (And l r) x = (x ≡ l.0) ⊎ (x ≡ r.0)

-- the node is a root's, or a node that is reached reads it
pub data IsReached (g : List Node) (roots : List ℕ) : ℕ → Type 0 where
  root : (x : ℕ) → Contains roots x → IsReached g roots (x / 2)
  operand : (n x : ℕ) (node : Node) → IsReached g roots n → slice_get g n ≡ Some node → Reads node x → IsReached g roots (x / 2)

-- the numbers of exactly the nodes that are reached from the roots, each once, increasing
pub record IsConeOf (g : List Node) (roots : List ℕ) (nodes : List ℕ) : Type 0 where
  pub increasing : IsStrictlyIncreasing nodes
  pub reached : (n : ℕ) → Contains nodes n → IsReached g roots n
  pub all : (n : ℕ) → IsReached g roots n → Contains nodes n

-- numbers of nodes, increasing, and with each node those that it reads: as each cone is
pub record IsClosed (g : List Node) (nodes : List ℕ) : Type 0 where
  pub increasing : IsStrictlyIncreasing nodes
  pub within : (n : ℕ) → Contains nodes n → n < length g
  pub operands : (n x : ℕ) (node : Node) → Contains nodes n → slice_get g n ≡ Some node → Reads node x → Contains nodes (x / 2)

-- the literal x of the graph is the literal y where the nodes are numbered by their places in the list
abbrev pub IsPlacedLit : List ℕ → ℕ → ℕ → Type 0
IsPlacedLit nodes x y = (y % 2 ≡ x % 2) × (slice_get nodes (y / 2) ≡ Some (x / 2))

-- the same of a node
abbrev pub IsPlacedNode : List ℕ → Node → Node → Type 0
IsPlacedNode nodes Constant placed = placed ≡ Constant
IsPlacedNode nodes (Input v) placed = placed ≡ Input v
IsPlacedNode nodes (And l r) placed = (s : Lit) × (t : Lit) × (placed ≡ And s t) × IsPlacedLit nodes l.0 s.0 × IsPlacedLit nodes r.0 t.0

-- the nodes of the list, each with its operands as literals of places in the list
pub record IsPartOf (g : List Node) (nodes : List ℕ) (part : List Node) : Type 0 where
  pub each : length part ≡ length nodes
  pub placed : (k n : ℕ) (node : Node) → slice_get nodes k ≡ Some n → slice_get g n ≡ Some node → (p : Node) × (slice_get part k ≡ Some p) × IsPlacedNode nodes node p

-- the numbers, and behind them this one if it isn't among them
abbrev pub with_number : List ℕ → ℕ → List ℕ
with_number numbers n = if list_any (λ m. n == m) numbers then numbers else numbers ++ n ∷ []

-- the numbers, and behind them those of the nodes that the node reads
abbrev pub HasOperands : List ℕ → Node → List ℕ → Type 0
HasOperands numbers Constant new = new ≡ numbers
HasOperands numbers (Input v) new = new ≡ numbers
HasOperands numbers (And l r) new = new ≡ with_number (with_number numbers (l.0 / 2)) (r.0 / 2)

-- numbers of nodes, each once and each reached from a root
pub record IsSeen (g : List Node) (roots : List ℕ) (seen : List ℕ) : Type 0 where
  pub distinct : AreDistinct seen
  pub within : (i n : ℕ) → slice_get seen i ≡ Some n → n < length g
  pub reached : (i n : ℕ) → slice_get seen i ≡ Some n → IsReached g roots n

-- a walk from the roots: their nodes are seen, and with each of the first that were seen the nodes that it reads
pub record IsWalk (g : List Node) (roots : List ℕ) (seen : List ℕ) (first : ℕ) : Type 0 where
  pub sound : IsSeen g roots seen
  pub front : first ≤ length seen
  pub rooted : (x : ℕ) → Contains roots x → Contains seen (x / 2)
  pub closed : (i n x : ℕ) (node : Node) → i < first → slice_get seen i ≡ Some n → slice_get g n ≡ Some node → Reads node x → Contains seen (x / 2)

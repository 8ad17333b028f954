-- The functions of a graph in another one, over the same variables.
use Rattle.std.specs.Prelude.{◌≡◌, ℕ, ◌*◌, ◌/◌, ◌%◌, ◌<◌, ◌==◌, Bool, true, false, List, [], ◌∷◌, length, slice_get, slice_index_or, Some}
use Rattle.aig.specs.declared.node.Lit.{Lit}
use Rattle.aig.specs.declared.node.Node.{Node}
use Rattle.aig.specs.declared.node.Node.TheVariants.{Input}
use Rattle.aig.specs.Cone.{IsReached}
use Rattle.aig.specs.Graph.{flip}
use Rattle.aig.specs.Values.{value}

-- The literal y of g has under each assignment the value that x of own has, and reads no variables but those that x reads.
pub record IsTwinOf (own g : List Node) (x y : ℕ) : Type 0 where
  pub within : y < 2 * length g
  pub same : (a : ℕ → Bool) → value g a y ≡ value own a x
  pub reads : (k v : ℕ) → IsReached g (y ∷ []) k → slice_get g k ≡ Some (Input v) → (n : ℕ) × IsReached own (x ∷ []) n × (slice_get own n ≡ Some (Input v))

-- each literal of the list is one for the node of its place
abbrev pub AreTwins : List Node → List Node → List Lit → Type 0
AreTwins own g lits = (n : ℕ) (y : Lit) → slice_get lits n ≡ Some y → IsTwinOf own g (2 * n) y.0

-- a literal or its complement
abbrev pub literal_by : Bool → Lit → Lit
literal_by true y = record { 0 = flip y.0 }
literal_by false y = y

-- the literal for x, where the list has those for the nodes
abbrev pub twin_in : List Lit → Lit → Lit
twin_in lits x = literal_by (x.0 % 2 == 1) (slice_index_or lits (x.0 / 2) (record { 0 = 0 }))

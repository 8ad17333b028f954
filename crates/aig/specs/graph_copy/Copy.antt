-- Copies of literals in another graph.
use Rattle.std.specs.Prelude.{◌≡◌, ℕ, ◌*◌, ◌<◌, Bool, List, [], ◌∷◌, length, slice_get, slice_index_or, Some}
use Rattle.aig.specs.declared.node.Lit.{Lit}
use Rattle.aig.specs.declared.node.Node.{Node}
use Rattle.aig.specs.declared.node.Node.TheVariants.{Input}
use Rattle.aig.specs.Cone.{IsReached}
use Rattle.aig.specs.Values.{value}

-- each variable has the bit of the one with the number at its place
abbrev pub renamed : List ℕ → (ℕ → Bool) → ℕ → Bool
renamed numbers a v = a (slice_index_or numbers v 0)

-- the variable v is the number of one that the literal x reads
pub record IsReadBy (own : List Node) (numbers : List ℕ) (x v : ℕ) : Type 0 where
  pub node : ℕ
  pub variable : ℕ
  pub reached : IsReached own (x ∷ []) node
  pub at : slice_get own node ≡ Some (Input variable)
  pub number : slice_get numbers variable ≡ Some v

-- The literal y of g is a copy of x: it has x's value where each variable of x has the bit of its number, and it reads the numbers
-- of x's variables alone.
pub record IsCopyOf (own : List Node) (numbers : List ℕ) (g : List Node) (x y : ℕ) : Type 0 where
  pub within : y < 2 * length g
  pub same : (a : ℕ → Bool) → value g a y ≡ value own (renamed numbers a) x
  pub reads : (k v : ℕ) → IsReached g (y ∷ []) k → slice_get g k ≡ Some (Input v) → IsReadBy own numbers x v

-- each literal of the list is a copy of the node of its place
abbrev pub AreCopies : List Node → List ℕ → List Node → List Lit → Type 0
AreCopies own numbers g lits = (n : ℕ) (y : Lit) → slice_get lits n ≡ Some y → IsCopyOf own numbers g (2 * n) y.0

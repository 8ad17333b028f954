-- Several literals together.
use Rattle.std.specs.Prelude.{◌≡◌, ◌↔◌, ℕ, ◌*◌, ◌<◌, Bool, true, List, [], ◌∷◌, length, slice_get, Some}
use Rattle.std.specs.List.{All, Contains}
use Rattle.aig.specs.declared.node.Lit.{Lit}
use Rattle.aig.specs.declared.node.Node.{Node}
use Rattle.aig.specs.declared.node.Node.TheVariants.{Input}
use Rattle.aig.specs.Cone.{IsReached}
use Rattle.aig.specs.Values.{value}

-- one of the literals reads the variable
pub record IsReadByOne (g : List Node) (lits : List Lit) (v : ℕ) : Type 0 where
  pub literal : Lit
  pub node : ℕ
  pub among : Contains lits literal
  pub reached : IsReached g (literal.0 ∷ []) node
  pub at : slice_get g node ≡ Some (Input v)

-- The literal x of h holds exactly where each of these literals of g does, and reads no variable but those that they read.
pub record IsConjunction (g : List Node) (lits : List Lit) (h : List Node) (x : ℕ) : Type 0 where
  pub within : x < 2 * length h
  pub worth : (a : ℕ → Bool) → (value h a x ≡ true) ↔ All (λ (l : Lit). value g a l.0 ≡ true) lits
  pub reads : (k v : ℕ) → IsReached h (x ∷ []) k → slice_get h k ≡ Some (Input v) → IsReadByOne g lits v

-- Literals that stand for literals of another graph where one variable has a bit.
use Rattle.std.specs.Prelude.{◌≡◌, ℕ, ◌*◌, ◌<◌, Bool, List, [], ◌∷◌, ◌++◌, length, slice_get, Option, Some, All}
use Rattle.aig.specs.declared.node.Lit.{Lit}
use Rattle.aig.specs.declared.node.Node.{Node}
use Rattle.aig.specs.Values.{value}
use Rattle.sweep_candidates.specs.declared.case_split.case.Case.{Case}

-- The literal y of h has the value of the literal x of g under each assignment that gives the variable the bit.
pub record StandsUnder (v : ℕ) (bit : Bool) (g h : List Node) (x y : ℕ) : Type 0 where
  pub within : y < 2 * length h
  pub same : (a : ℕ → Bool) → a v ≡ bit → value h a y ≡ value g a x

-- each literal that is known stands for the node of its place
abbrev pub AreUnder : List Node → ℕ → Bool → List Node → List (Option Lit) → Type 0
AreUnder g v bit h lits = (n : ℕ) (y : Lit) → slice_get lits n ≡ Some (Some y) → StandsUnder v bit g h (2 * n) y.0

-- two literals have one value under every assignment
abbrev pub AgreeIn : List Node → ℕ → ℕ → Type 0
AgreeIn g x y = (a : ℕ → Bool) → value g a x ≡ value g a y

-- the case's literals stand for x and y where the variable has the bit
pub record IsCaseOf (g : List Node) (x y v : ℕ) (bit : Bool) (c : Case) : Type 0 where
  pub left : StandsUnder v bit g c.graph x c.left.0
  pub right : StandsUnder v bit g c.graph y c.right.0

-- the literals of each case agree
abbrev pub AllAgree : List Case → Type 0
AllAgree cases = All (λ c. AgreeIn c.graph c.left.0 c.right.0) cases

-- if the literals of the new cases agree, so do x and y, and those of the old cases
abbrev pub IsSplitOf : List Node → ℕ → ℕ → List Case → List Case → Type 0
IsSplitOf g x y old new = AllAgree new → AgreeIn g x y × AllAgree old

-- a case of the two literals stands behind the rest
pub record IsPutBehind (g : List Node) (x y v : ℕ) (bit : Bool) (old new : List Case) : Type 0 where
  pub case : Case
  pub stands : IsCaseOf g x y v bit case
  pub behind : new ≡ old ++ case ∷ []

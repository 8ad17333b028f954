-- The graph of two trees, numbered by the trees alone.
use Rattle.std.specs.Prelude.{◌≡◌, ℕ, zero, suc, List, [], ◌∷◌, ◌++◌, map, length}
use Rattle.circuit_theory.specs.Tree.{Tree}
use Rattle.circuit_theory.specs.Query.{Variable, AreVariables, ShiftBefore}
use Rattle.aig.specs.declared.node.Node.{Node}
use Rattle.aig.specs.declared.node.Node.TheVariants.{Constant, Input}
use Rattle.tree_graph.specs.Making.{Makes}

-- the constant, and as many inputs behind it
abbrev pub with_inputs : ℕ → List Node
with_inputs zero = Constant ∷ []
with_inputs (suc n) = with_inputs n ++ Input n ∷ []

-- an input at a shift as an entry of a table
abbrev pub entry_of : Variable ℕ → ℕ × ℕ
entry_of x = (x.input, x.at)

-- The graph of two trees and their literals there: the constant, then the inputs of both trees, those of a greater shift first and of
-- one shift by their numbers, then what making the left tree adds, then what making the right one adds. So no node's number depends on
-- anything but the trees.
pub record IsGraphOf (left right : Tree ℕ) (places : List (ℕ × ℕ)) (g : List Node) (x y : ℕ) : Type 0 where
  pub variables : List (Variable ℕ)
  pub are_variables : AreVariables ShiftBefore (left ∷ right ∷ []) variables
  pub places_are : places ≡ map entry_of variables
  pub between : List Node
  pub left_made : Makes places (with_inputs (length variables)) left between x
  pub right_made : Makes places between right g y

-- two trees have one table, one graph and one literal each
abbrev pub HaveOneGraph : Type 0
HaveOneGraph =
    (left right : Tree ℕ) (places others : List (ℕ × ℕ)) (g h : List Node) (x y z w : ℕ) → IsGraphOf left right places g x y → IsGraphOf left right others h z w →
    (places ≡ others) × (g ≡ h) × (x ≡ z) × (y ≡ w)

-- it is the graph of the trees, where the table has the inputs of both in their order
abbrev pub IsOfTrees : Tree ℕ → Tree ℕ → List (ℕ × ℕ) → List Node → ℕ → ℕ → Type 0
IsOfTrees left right places g x y =
    (variables : List (Variable ℕ)) → AreVariables ShiftBefore (left ∷ right ∷ []) variables → places ≡ map entry_of variables → IsGraphOf left right places g x y

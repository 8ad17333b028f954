-- What stands behind the answers on a pair.
use Rattle.std.specs.Prelude.{◌≡◌, ◌≢◌, ℕ, ◌+◌, ◌<◌, ◌≤◌, max, Bool, List, [], ◌∷◌, length}
use Rattle.std.specs.List.{All}
use Rattle.circuit_theory.specs.Circuit.{Circuit}
use Rattle.circuit_theory.specs.Run.{IsRun, NoneEnabled}
use Rattle.circuit_theory.specs.Depth.{IsDepth}
use Rattle.circuit_theory.specs.Tree.{Tree, Unfolds, tree_value}
use Rattle.circuit_theory.specs.Query.{Variable, AreVariables, ShiftBefore, same_shift, assigned, bits_of, pair_query, Distinguishes, IsLeast}
use Rattle.circuit_theory.specs.Sequence.{sequence_rows, row_value, TakesInputs}

-- the depth of a pair is the greater of both depths
pub record IsPairDepth {P Q : Type 0} (a : Circuit P) (b : Circuit Q) (p : P) (q : Q) (depth : ℕ) : Type 0 where
  pub left : ℕ
  pub right : ℕ
  pub left_is : IsDepth a NoneEnabled p left
  pub right_is : IsDepth b NoneEnabled q right
  pub greater : depth ≡ max left right

-- The rows make the pair differ in all runs: whatever the power-up, in any two runs over them the two places have these values
-- in the last cycle, and they differ.
pub record MakesDiffer {P Q : Type 0} (a : Circuit P) (b : Circuit Q) (left right : List ℕ) (p : P) (q : Q) (rows : List (List Bool)) (last : ℕ) (l r : Bool) : Type 0 where
  pub cycles : length rows ≡ last + 1
  pub left_is : (n : ℕ) (run : ℕ → P → Bool) → IsRun a n run → last < n → TakesInputs a left (row_value rows) (last + 1) run → run last p ≡ l
  pub right_is : (n : ℕ) (run : ℕ → Q → Bool) → IsRun b n run → last < n → TakesInputs b right (row_value rows) (last + 1) run → run last q ≡ r
  pub differ : l ≢ r

-- What stands behind a sequence that is printed for a pair: both sides unfold, an assignment of the variables of both trees makes
-- the functions differ, up to 16 variables the least one, and the rows for so many inputs are its sequence.
pub record IsWitness {P Q : Type 0} (a : Circuit P) (b : Circuit Q) (left right : List ℕ) (p : P) (q : Q) (count : ℕ) (rows : List (List Bool)) (last : ℕ) (l r : Bool) : Type 0 where
  pub left_depth : ℕ
  pub right_depth : ℕ
  pub left_tree : Tree ℕ
  pub right_tree : Tree ℕ
  pub left_unfolds : Unfolds a left p 0 left_depth left_tree
  pub right_unfolds : Unfolds b right q 0 right_depth right_tree
  pub last_is : last ≡ max left_depth right_depth
  pub variables : List (Variable ℕ)
  pub are_variables : AreVariables ShiftBefore (left_tree ∷ right_tree ∷ []) variables
  pub inputs : All (λ x. x.input < count) variables
  pub bits : List Bool
  pub each : length bits ≡ length variables
  pub distinguishes : Distinguishes (pair_query left_tree right_tree) (assigned same_shift variables bits)
  pub least : length variables ≤ 16 → (number : ℕ) × (bits ≡ bits_of number (length variables)) × IsLeast same_shift (pair_query left_tree right_tree) variables number
  pub rows_are : rows ≡ sequence_rows last (assigned same_shift variables bits) count
  pub left_value : l ≡ tree_value (assigned same_shift variables bits) left_tree
  pub right_value : r ≡ tree_value (assigned same_shift variables bits) right_tree

-- Queries, their variables, and the least assignment that distinguishes.
use Rattle.std.specs.Prelude.{◌≡◌, ◌≢◌, ℕ, zero, suc, ◌/◌, ◌%◌, ◌^◌, ◌<◌, ◌==◌, ◌&&◌, ◌⊎◌, ◌↔◌, Bool, true, false, if◌then◌else◌, List, [], ◌∷◌, length}
use Rattle.std.specs.List.{Contains, AllPairs}
use Rattle.circuit_theory.specs.Tree.{Tree, Leaf, Branch, Trees, Cons, tree_value}

-- What is asked: do left and right agree wherever the care holds? Each is a function of an assignment.
pub record Query (L : Type 0) : Type 0 where
  pub left : (ℕ → L → Bool) → Bool
  pub right : (ℕ → L → Bool) → Bool
  pub care : (ℕ → L → Bool) → Bool

-- the query of a pair in the plain form
abbrev pub pair_query : Tree ℕ → Tree ℕ → Query ℕ
pair_query left right = record { left = λ a. tree_value a left; right = λ a. tree_value a right; care = λ a. true }

-- they agree under each assignment that meets the care
abbrev pub IsSame : {L : Type 0} → Query L → Type 0
IsSame {L} q = (a : ℕ → L → Bool) → q.care a ≡ true → q.left a ≡ q.right a

-- the assignment meets the care, and they differ under it
pub record Distinguishes {L : Type 0} (q : Query L) (a : ℕ → L → Bool) : Type 0 where
  pub care : q.care a ≡ true
  pub differs : q.left a ≢ q.right a

-- an input at a place: a shift, or an event node
pub record Variable (L : Type 0) : Type 0 where
  pub input : ℕ
  pub at : L

-- the variable is a leaf of the tree
mutual
  pub data HasLeaf {L : Type 0} (x : Variable L) : Tree L → Type 0 where
    leaf : HasLeaf x (Leaf x.input x.at)
    inside : {cover : _} {trees : Trees L} → HasLeafIn x trees → HasLeaf x (Branch cover trees)

  -- the same of one of the trees
  pub data HasLeafIn {L : Type 0} (x : Variable L) : Trees L → Type 0 where
    first : {tree : Tree L} {trees : Trees L} → HasLeaf x tree → HasLeafIn x (Cons tree trees)
    later : {tree : Tree L} {trees : Trees L} → HasLeafIn x trees → HasLeafIn x (Cons tree trees)

-- plain variables go by greater shift, then by input
abbrev pub ShiftBefore : Variable ℕ → Variable ℕ → Type 0
ShiftBefore x y = (y.at < x.at) ⊎ ((x.at ≡ y.at) × (x.input < y.input))

-- two shifts are one
abbrev pub same_shift : ℕ → ℕ → Bool
same_shift j k = j == k

-- the distinct leaves of the trees that are wanted, in the order that is given
pub record AreLeaves {L : Type 0} (before : Variable L → Variable L → Type 0) (wanted : Tree L → Type 0) (variables : List (Variable L)) : Type 0 where
  pub in_order : AllPairs before variables
  pub exactly : (x : Variable L) → Contains variables x ↔ ((tree : Tree L) × wanted tree × HasLeaf x tree)

-- those of these trees
abbrev pub AreVariables : {L : Type 0} → (Variable L → Variable L → Type 0) → List (Tree L) → List (Variable L) → Type 0
AreVariables before trees variables = AreLeaves before (Contains trees) variables

-- the low bits of a number, the lowest first
abbrev pub bits_of : ℕ → ℕ → List Bool
bits_of number zero = []
bits_of number (suc count) = (number % 2 == 1) ∷ bits_of (number / 2) count

-- each variable has its bit, and all else 0; `same` tells whether two places are one
abbrev pub assigned : {L : Type 0} → (L → L → Bool) → List (Variable L) → List Bool → ℕ → L → Bool
assigned same [] bits input at = false
assigned same (x ∷ xs) [] input at = false
assigned same (x ∷ xs) (b ∷ bits) input at = if (x.input == input) && same x.at at then b else assigned same xs bits input at

-- the least number whose assignment distinguishes, the first variable being the lowest bit
pub record IsLeast {L : Type 0} (same : L → L → Bool) (q : Query L) (variables : List (Variable L)) (number : ℕ) : Type 0 where
  pub in_range : number < 2 ^ length variables
  pub distinguishes : Distinguishes q (assigned same variables (bits_of number (length variables)))
  pub least : (m : ℕ) → m < number → Distinguishes q (assigned same variables (bits_of m (length variables))) → ⊥

-- An assumption in the first cycles, from cycle 0 on: what is asked of a pair under it, and what shows that its functions differ.
use Rattle.std.specs.Prelude.{◌≡◌, ◌↔◌, ◌⊎◌, ℕ, ◌+◌, ◌<◌, ◌≤◌, Bool, true, List, [], ◌∷◌, length, Contains}
use Rattle.circuit_theory.specs.Agree.{IsPair}
use Rattle.circuit_theory.specs.Asked.{AskedPair}
use Rattle.circuit_theory.specs.Circuit.{Circuit}
use Rattle.circuit_theory.specs.Query.{Query, Variable, AreLeaves, HasLeaf, Distinguishes, IsLeast, assigned, bits_of, same_shift}
use Rattle.circuit_theory.specs.Tree.{Tree, tree_value}
use Rattle.circuit_laws.specs.reset_laws.Reset.{AreAlikeFromReset, ResetUnfolds, powers, reset_pair, reset_rows}
use Rattle.assume_laws.specs.Assume.{Assumption, PlaceUnfolds, RowMeets, RunMeets}

-- the assignment meets the assumption in each of so many first cycles
abbrev pub MeetsFirst : Assumption → ℕ → (ℕ → ℕ → Bool) → Type 0
MeetsFirst c count x = (k : ℕ) → k < count → RowMeets c (λ i. x i k)

-- what gives a query its variables: the trees that do so without the assumption, and the assumption's in each of the first cycles
abbrev pub IsWantedFirst : Assumption → ℕ → (Tree ℕ → Type 0) → Tree ℕ → Type 0
IsWantedFirst c count wanted tree = wanted tree ⊎ ((k : ℕ) × (k < count) × PlaceUnfolds c.circuit c.order k c.output tree)

-- a pair as it is asked where the assumption is met in so many first cycles
abbrev pub under_first : Assumption → ℕ → AskedPair ℕ → AskedPair ℕ
under_first c count x = record {
  before = x.before;
  left = x.left;
  right = x.right;
  wanted = λ l r. IsWantedFirst c count (x.wanted l r);
  care = λ l r bits. x.care l r bits × MeetsFirst c count bits;
}

-- a pair in a cycle of runs from the initial values, where the assumption is met in each cycle up to this one
abbrev pub reset_pair_under : Assumption → Circuit ℕ → Circuit ℕ → List ℕ → List ℕ → ℕ → ℕ → ℕ → ℕ → ℕ → AskedPair ℕ
reset_pair_under c a b left right left_base right_base p q t = under_first c (t + 1) (reset_pair a b left right left_base right_base p q t)

-- an assignment of a pair's variables with care under which both sides differ, up to 16 variables the least one
pub record IsDifferenceOf (x : AskedPair ℕ) (left right : Tree ℕ) (variables : List (Variable ℕ)) (bits : List Bool) : Type 0 where
  pub are_variables : AreLeaves x.before (x.wanted left right) variables
  pub each : length bits ≡ length variables
  pub query : Query ℕ
  pub left_is : (y : ℕ → ℕ → Bool) → query.left y ≡ tree_value y left
  pub right_is : (y : ℕ → ℕ → Bool) → query.right y ≡ tree_value y right
  pub care_is : (y : ℕ → ℕ → Bool) → (query.care y ≡ true) ↔ x.care left right y
  pub distinguishes : Distinguishes query (assigned same_shift variables bits)
  pub least : length variables ≤ 16 → (number : ℕ) × (bits ≡ bits_of number (length variables)) × IsLeast same_shift query variables number

-- What stands behind a sequence that is printed with both power-ups for a pair in a cycle: such an assignment, of the rows and the latches.
-- What both trees read are inputs below the count, or latches.
pub record IsWitnessFirst (c : Assumption) (a b : Circuit ℕ) (left right : List ℕ) (left_base right_base p q count : ℕ) (rows : List (List Bool)) (left_power right_power : List Bool) (last : ℕ) (l r : Bool) : Type 0 where
  pub left_tree : Tree ℕ
  pub right_tree : Tree ℕ
  pub left_unfolds : ResetUnfolds a left left_base p last left_tree
  pub right_unfolds : ResetUnfolds b right right_base q last right_tree
  pub variables : List (Variable ℕ)
  pub bits : List Bool
  pub difference : IsDifferenceOf (reset_pair_under c a b left right left_base right_base p q last) left_tree right_tree variables bits
  pub inputs : (tree : Tree ℕ) (x : Variable ℕ) → Contains (left_tree ∷ right_tree ∷ []) tree → HasLeaf x tree → (x.input < count) ⊎ (left_base ≤ x.input)
  pub rows_are : rows ≡ reset_rows last (assigned same_shift variables bits) count
  pub left_power_is : left_power ≡ powers a left_base (assigned same_shift variables bits)
  pub right_power_is : right_power ≡ powers b right_base (assigned same_shift variables bits)
  pub left_value : l ≡ tree_value (assigned same_shift variables bits) left_tree
  pub right_value : r ≡ tree_value (assigned same_shift variables bits) right_tree

-- in any two reset runs with equal inputs that meet the assumption each output has equal values in the cycles up to a last one
abbrev pub AgreeUpToUnder : {P Q : Type 0} → Assumption → ℕ → Circuit P → Circuit Q → Type 0
AgreeUpToUnder {P} {Q} c last a b =
    (n : ℕ) (left : ℕ → P → Bool) (right : ℕ → Q → Bool) → AreAlikeFromReset a b n left right → RunMeets c a n left → (t : ℕ) (p : P) (q : Q) → t < n → t ≤ last → IsPair [] a b p q → left t p ≡ right t q

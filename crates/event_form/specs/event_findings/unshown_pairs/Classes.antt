-- The classes by which event nodes are entered.
use Rattle.std.specs.Prelude.{◌≡◌, ◌⊎◌, ◌↔◌, ℕ, ◌+◌, ◌<◌, List, slice_get, Some, Contains}
use Rattle.std.specs.List.{AllPairs}

-- the node is entered from its parent by the class
abbrev pub IsEnteredBy : List (ℕ × ℕ) → ℕ → ℕ → Type 0
IsEnteredBy children node class = (k : ℕ) × (parent : ℕ) × (node ≡ k + 1) × (slice_get children k ≡ Some (parent, class))

-- some of the nodes is
abbrev pub IsEnteredAmong : List (ℕ × ℕ) → List ℕ → ℕ → Type 0
IsEnteredAmong children nodes class = (n : ℕ) × Contains nodes n × IsEnteredBy children n class

-- the class by which the node is entered was put behind the others, if there is one
abbrev pub HasEntered : List (ℕ × ℕ) → ℕ → List ℕ → List ℕ → Type 0
HasEntered children node old new = (k : ℕ) → Contains new k ↔ (Contains old k ⊎ IsEnteredBy children node k)

-- the same numbers, each once, in order
pub record IsIncreasing (numbers increasing : List ℕ) : Type 0 where
  pub same : (k : ℕ) → Contains increasing k ↔ Contains numbers k
  pub rising : AllPairs ◌<◌ increasing

-- the classes by which these nodes are entered, each once, in order
pub record AreEntered (children : List (ℕ × ℕ)) (nodes classes : List ℕ) : Type 0 where
  pub exactly : (k : ℕ) → Contains classes k ↔ IsEnteredAmong children nodes k
  pub rising : AllPairs ◌<◌ classes

-- The places of variables, by their numbers in a table.
use Rattle.std.specs.Prelude.{◌≡◌, ◌≢◌, ℕ, ◌<◌, ◌≤◌, List, slice_get, Some}
use Rattle.std.specs.List.{AllPairs, Contains}
use Rattle.cbf_unfold.specs.shift_variables.Variables.{variable_of}

-- the place of the variable with this number: a shift or a cycle
abbrev pub place_of : List (ℕ × ℕ) → ℕ → ℕ
place_of table v = (variable_of table v).at

-- variables of one place stand side by side
abbrev pub AreGrouped : List (ℕ × ℕ) → List ℕ → Type 0
AreGrouped table vars =
    (i j k u v w : ℕ) → i ≤ j → j ≤ k → slice_get vars i ≡ Some u → slice_get vars j ≡ Some v → slice_get vars k ≡ Some w → place_of table u ≡ place_of table w → place_of table v ≡ place_of table w

-- the places of exactly these variables, each once
pub record ArePlacesOf (table : List (ℕ × ℕ)) (vars places : List ℕ) : Type 0 where
  pub distinct : AllPairs (λ j k. j ≢ k) places
  pub from : (k : ℕ) → Contains places k → (v : ℕ) × Contains vars v × (place_of table v ≡ k)
  pub all : (v : ℕ) → Contains vars v → Contains places (place_of table v)

-- some variable of the first place stands before some variable of the second
pub record ComesFirst (table : List (ℕ × ℕ)) (vars : List ℕ) (j k : ℕ) : Type 0 where
  pub early : ℕ
  pub late : ℕ
  pub first : ℕ
  pub second : ℕ
  pub before : early < late
  pub first_at : slice_get vars early ≡ Some first
  pub second_at : slice_get vars late ≡ Some second
  pub first_place : place_of table first ≡ j
  pub second_place : place_of table second ≡ k

-- the places come as these variables do
abbrev pub ComeInTurn : List (ℕ × ℕ) → List ℕ → List ℕ → Type 0
ComeInTurn table vars places = AllPairs (ComesFirst table vars) places

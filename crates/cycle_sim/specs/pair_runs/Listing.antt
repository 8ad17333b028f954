-- The differences among what the cycles show of the pairs, and since when these are settled in both circuits.
use Rattle.std.specs.Prelude.{◌≡◌, ℕ, ◌+◌, ◌<◌, Bool, true, false, not, ◌&&◌, List, [], ◌∷◌, ◌++◌, Option, Some, None, slice_get, if◌then◌else◌}
use Rattle.circuit_theory.specs.Replay.{Difference}
use Rattle.cycle_sim.specs.declared.pair_runs.shown.Shown.{Shown}

-- the two bits aren't one
abbrev pub differ : Bool → Bool → Bool
differ true r = not r
differ false r = r

-- the pair is marked in both circuits
abbrev pub is_settled : Shown → Bool
is_settled s = s.left_mark && s.right_mark

-- it is so and differs
abbrev pub is_difference : Shown → Bool
is_difference s = is_settled s && differ s.left s.right

-- the differences among the pairs of cycle t from the one at place k on
abbrev pub differences_in : ℕ → ℕ → List Shown → List Difference
differences_in t k [] = []
differences_in t k (s ∷ rest) =
    if is_difference s then (record { cycle = t; pair = k; left = s.left; right = s.right }) ∷ differences_in t (k + 1) rest else differences_in t (k + 1) rest

-- the differences of the cycles from t on
abbrev pub differences_from : ℕ → List (List Shown) → List Difference
differences_from t [] = []
differences_from t (pairs ∷ rest) = differences_in t 0 pairs ++ differences_from (t + 1) rest

-- the first cycle in which a pair is settled in both circuits, by the first of those before this one, if any, and by what this one shows
abbrev pub first_with : Option ℕ → ℕ → Shown → Option ℕ
first_with (Some first) t s = Some first
first_with None t s = if is_settled s then Some t else None

-- the pair at this place is settled in both circuits in cycle t
pub record IsSettledIn (cycles : List (List Shown)) (place t : ℕ) : Type 0 where
  pub shown : List Shown
  pub both : Shown
  pub cycle_at : slice_get cycles t ≡ Some shown
  pub pair_at : slice_get shown place ≡ Some both
  pub settled : is_settled both ≡ true

-- this is the first of the cycles in which the pair at this place is settled in both circuits; none where it is so in none of them
abbrev pub IsFirstIn : List (List Shown) → ℕ → Option ℕ → Type 0
IsFirstIn cycles place None = (t : ℕ) → IsSettledIn cycles place t → ⊥
IsFirstIn cycles place (Some first) = IsSettledIn cycles place first × ((t : ℕ) → t < first → IsSettledIn cycles place t → ⊥)

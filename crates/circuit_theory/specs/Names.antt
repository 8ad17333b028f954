-- Names: lists of bytes.
use Rattle.std.specs.Prelude.{◌≡◌, ℕ, ◌<◌, ◌⊎◌, Bool, true, false, ◌&&◌, ◌==◌, List, [], ◌∷◌}
use Rattle.std.specs.List.{list_any}

-- two names are one
abbrev pub same_name : List ℕ → List ℕ → Bool
same_name [] [] = true
same_name [] (y ∷ ys) = false
same_name (x ∷ xs) [] = false
same_name (x ∷ xs) (y ∷ ys) = (x == y) && same_name xs ys

-- the name stands in the list
abbrev pub is_among : List (List ℕ) → List ℕ → Bool
is_among names name = list_any (same_name name) names

-- the first list comes before the second: the order of a dictionary, a beginning before what it begins
abbrev pub ListBefore : List ℕ → List ℕ → Type 0
ListBefore xs [] = ⊥
ListBefore [] (y ∷ ys) = Unit {0}
ListBefore (x ∷ xs) (y ∷ ys) = (x < y) ⊎ ((x ≡ y) × ListBefore xs ys)

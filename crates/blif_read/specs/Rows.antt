-- The rows of a `.names`, and its cover.
use Rattle.std.specs.Prelude.{ℕ, ◌==◌, nat_lt, ◌&&◌, ◌||◌, not, Bool, true, false, List, [], ◌∷◌, map, length, codes, bytes_eq}
use Rattle.std.specs.List.{list_all}
use Rattle.circuit_theory.specs.Cover.{Cover}
use Rattle.blif_read.specs.Heads.{last_or_empty}

abbrev pub is_place : ℕ → Bool
is_place b = (b == 48) || (b == 49) || (b == 45)

-- the one byte 0 or 1
abbrev pub is_output : List ℕ → Bool
is_output token = bytes_eq token (codes "0") || bytes_eq token (codes "1")

-- the tokens are a row under so many fan-ins
abbrev pub is_row : ℕ → List (List ℕ) → Bool
is_row width (out ∷ []) = (width == 0) && is_output out
is_row width (places ∷ out ∷ []) = nat_lt 0 width && (length places == width) && list_all is_place places && is_output out
is_row width tokens = false

-- the row's output is 1
abbrev pub is_on : List (List ℕ) → Bool
is_on tokens = bytes_eq (last_or_empty tokens) (codes "1")

-- the places of a row, one for each fan-in
abbrev pub places_of : List (List ℕ) → List ℕ
places_of (places ∷ out ∷ []) = places
places_of tokens = []

-- the first row says whether the rows list where the value is 1; without rows they do, and the value is 0
abbrev pub lists_on : List (List (List ℕ)) → Bool
lists_on [] = true
lists_on (row ∷ rows) = is_on row

-- the cover of these rows
abbrev pub cover_of : ℕ → List (List (List ℕ)) → Cover
cover_of width rows = record { width = width; rows = map places_of rows; on = lists_on rows }

abbrev pub differ : Bool → Bool → Bool
differ true b = not b
differ false b = b

-- the row's output differs from the first row's
abbrev pub is_mixed : List (List (List ℕ)) → List (List ℕ) → Bool
is_mixed [] tokens = false
is_mixed (row ∷ rows) tokens = differ (is_on tokens) (is_on row)

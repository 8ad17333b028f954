-- The text of a stimulus, as a function of its names and rows.
use Rattle.std.specs.Prelude.{◌≡◌, ℕ, Bool, true, false, List, [], ◌∷◌, ◌++◌, map, codes, if◌then◌else◌, refl}
use Rattle.std.specs.List.{flat_map}

-- the digit of a bit
abbrev pub digit_of : Bool → ℕ
digit_of bit = if bit then 49 else 48

-- each name behind a blank
abbrev pub names_text : List (List ℕ) → List ℕ
names_text names = flat_map (λ name. 32 ∷ name) names

-- the header: the word `inputs`, then the names
abbrev pub header_line : List (List ℕ) → List ℕ
header_line names = codes "inputs" ++ names_text names

-- one digit for each bit, or a dash where there are none
abbrev pub row_text : List Bool → List ℕ
row_text [] = 45 ∷ []
row_text (bit ∷ bits) = map digit_of (bit ∷ bits)

abbrev pub row_line : List Bool → List ℕ
row_line row = row_text row ++ 10 ∷ []

-- the header, then a line for each cycle; each line ends with a line feed
unfoldable pub stimulus_text : List (List ℕ) → List (List Bool) → List ℕ
stimulus_text names rows = header_line names ++ 10 ∷ [] ++ flat_map row_line rows

-- two inputs in two cycles, and a cycle without inputs
two_example : stimulus_text (codes "a" ∷ codes "b" ∷ []) ((true ∷ false ∷ []) ∷ (false ∷ false ∷ []) ∷ []) ≡ codes "inputs a b\n10\n00\n"
unfolding stimulus_text
two_example = refl

none_example : stimulus_text [] ([] ∷ []) ≡ codes "inputs\n-\n"
unfolding stimulus_text
none_example = refl

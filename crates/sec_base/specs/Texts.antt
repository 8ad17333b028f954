-- Pieces of a text that the program writes.
use Rattle.std.specs.Prelude.{ℕ, Bool, List, ◌∷◌, if◌then◌else◌}
use Rattle.std.specs.List.{flat_map}

-- the digit of a bit: `1` or `0`
abbrev pub digit_of : Bool → ℕ
digit_of bit = if bit then 49 else 48

-- each name behind a blank
abbrev pub names_text : List (List ℕ) → List ℕ
names_text names = flat_map (λ name. 32 ∷ name) names

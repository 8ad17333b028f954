-- Rows with a meeting row where no variable stands.
use Rattle.std.specs.Prelude.{◌≡◌, ℕ, Bool, true, false, List, [], ◌∷◌, slice_index_or, refl}
use Rattle.std.specs.List.{list_any}
use Rattle.circuit_theory.specs.Query.{Variable, assigned, same_shift}
use Rattle.circuit_theory.specs.Sequence.{sequence_rows}
use Rattle.cbf_unfold.specs.shift_variables.Variables.{variables_of}
use Rattle.assume_laws.specs.Sequences.{filled}

-- the bit of an input in a row, 0 where the row has none
abbrev pub bit_of : List Bool → ℕ → Bool
bit_of row i = slice_index_or row i false

-- one of the variables has the place
abbrev pub has_place : List (ℕ × ℕ) → List ℕ → ℕ → Bool
has_place table vars k = list_any (λ (v : Variable ℕ). same_shift v.at k) (variables_of table vars)

-- a row that stays, or else the meeting row
abbrev pub row_or : Bool → List Bool → List Bool → List Bool
row_or true row meeting = row
row_or false row meeting = meeting

-- Two latches against a constant, where a has to be 1: the one variable is a two cycles before the last, and the cycles behind it hold the
-- row that meets this.
two_against_constant : sequence_rows 2 (filled same_shift (record { input = 0; at = 2 } ∷ []) (bit_of (true ∷ [])) (assigned same_shift (record { input = 0; at = 2 } ∷ []) (true ∷ []))) 1
    ≡ (true ∷ []) ∷ (true ∷ []) ∷ (true ∷ []) ∷ []
two_against_constant = refl

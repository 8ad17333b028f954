-- The sequence of a difference: rows of input bits, one for each cycle.
use Rattle.std.specs.Prelude.{◌≡◌, ℕ, zero, suc, ◌-◌, ◌<◌, Bool, true, false, if◌then◌else◌, nat_le, List, [], ◌∷◌, slice_index_or, refl}
use Rattle.circuit_theory.specs.Circuit.{Circuit}
use Rattle.circuit_theory.specs.Tree.{IsInputNumber}
use Rattle.circuit_theory.specs.Query.{assigned, same_shift, bits_of}

-- the value of an input in a cycle of the sequence that ends in cycle last: what the assignment has for it last - cycle cycles ago
abbrev pub sequence_value : ℕ → (ℕ → ℕ → Bool) → ℕ → ℕ → Bool
sequence_value last a input cycle = if nat_le cycle last then a input (last - cycle) else false

-- one row: the bits in a cycle of the inputs from a number on
abbrev pub sequence_row : ℕ → (ℕ → ℕ → Bool) → ℕ → ℕ → ℕ → List Bool
sequence_row last a cycle input zero = []
sequence_row last a cycle input (suc count) = sequence_value last a input cycle ∷ sequence_row last a cycle (suc input) count

-- the rows of so many cycles from one on
abbrev pub sequence_rows_from : ℕ → (ℕ → ℕ → Bool) → ℕ → ℕ → ℕ → List (List Bool)
sequence_rows_from last a count cycle zero = []
sequence_rows_from last a count cycle (suc cycles) = sequence_row last a cycle 0 count ∷ sequence_rows_from last a count (suc cycle) cycles

-- The distinguishing sequence: the cycles 0 to last, each with the bits of so many inputs in the order of their numbers.
abbrev pub sequence_rows : ℕ → (ℕ → ℕ → Bool) → ℕ → List (List Bool)
sequence_rows last a count = sequence_rows_from last a count 0 (suc last)

-- the bit of an input, by its number, in a cycle of the rows
abbrev pub row_value : List (List Bool) → ℕ → ℕ → Bool
row_value rows input cycle = slice_index_or (slice_index_or rows cycle []) input false

-- the run has in each cycle below n, at each input, the stimulus' value for the input's number
abbrev pub TakesInputs : {P : Type 0} → Circuit P → List ℕ → (ℕ → ℕ → Bool) → ℕ → (ℕ → P → Bool) → Type 0
TakesInputs {P} c order stimulus n run = (t : ℕ) (p : P) (i : ℕ) → t < n → IsInputNumber c order p i → run t p ≡ stimulus i t

-- One latch against two: the variables are (a, 2) and (a, 1), and 1 is the least number, which gives 1 0 0.
one_against_two : sequence_rows 2 (assigned same_shift (record { input = 0; at = 2 } ∷ record { input = 0; at = 1 } ∷ []) (bits_of 1 2)) 1
    ≡ (true ∷ []) ∷ (false ∷ []) ∷ (false ∷ []) ∷ []
one_against_two = refl

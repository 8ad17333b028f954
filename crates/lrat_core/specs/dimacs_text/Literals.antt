-- Literals as numbers.
use Rattle.std.specs.Prelude.{◌≡◌, ℕ, ◌&&◌, nat_le, Bool, true, false, not, List, ◌++◌, map}
use Rattle.std.specs.List.{list_all}
use Rattle.proof_check.specs.Literals.{Literal}
use Rattle.text_numbers.specs.declared.numbers.Number.{Number}

-- the number is a literal of a variable from 1 up to the limit
abbrev pub is_literal : ℕ → Number → Bool
is_literal limit n = nat_le 1 n.size && nat_le n.size limit

-- a variable, or its negation where the number is below 0
abbrev pub literal_of : Number → Literal
literal_of n = record { variable = n.size; positive = not n.is_negative }

-- all numbers are literals, and these were put behind others; or some number is none
abbrev pub IsPut : ℕ → List Number → Bool → List Literal → List Literal → Type 0
IsPut limit numbers true old new = (list_all (is_literal limit) numbers ≡ true) × (new ≡ old ++ map literal_of numbers)
IsPut limit numbers false old new = list_all (is_literal limit) numbers ≡ false

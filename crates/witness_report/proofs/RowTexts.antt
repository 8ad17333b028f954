-- Rows and their digits.
use Rattle.std.proofs.Common.{◌≡◌, ℕ, suc, ◌+◌, ◌<◌, ◌≤◌, Bool, List, [], ◌∷◌, ◌++◌, map, length, get_or, refl, sym, ◌∙◌, ap, subst, arith}
use Rattle.std.specs.List.{Contains}
use Rattle.std.proofs.lemmas.List.{length-append, length-map}
use Rattle.std.proofs.lemmas.Option.{slice_get-get_or}
use Rattle.circuit_theory.proofs.Lists.{Contains-map_from, of_at}
use Rattle.witness_report.specs.Text.{digit_of, row_text}
use Rattle.witness_report.specs.Form.{IsNoRow}

-- a byte that is no digit
pub no_digits : (line : List ℕ) (i d : ℕ) → i < length line → ((bit : Bool) → digit_of bit ≡ get_or line i d → ⊥) → (bits : List Bool) → map digit_of bits ≡ line → ⊥
no_digits line i d below none bits e =
    let at = of_at line i (get_or line i d) (slice_get-get_or line i d below) in
    let bit = Contains-map_from digit_of bits (get_or line i d) (subst (λ (l : List ℕ). Contains l (get_or line i d)) (sym e) at) in
    none bit.0 bit.2

-- a row with bits is its digits
pub row_digits : (row : List Bool) → 0 < length row → row_text row ≡ map digit_of row
row_digits [] h = absurd (omega (arith, h))
row_digits (bit ∷ bits) h = refl

pub no_bits : (count : ℕ) (line : List ℕ) → 0 < count → ((bits : List Bool) → map digit_of bits ≡ line → ⊥) → IsNoRow count line
no_bits count line some other row wide e = other row (sym (row_digits row (omega (arith, some, wide))) ∙ e)

-- where one line more is left, there are more lines than rows
pub rows_left : (lines : List (List ℕ)) (rows : List (List Bool)) (left after : List (List ℕ)) (line : List ℕ) → lines ≡ map row_text rows ++ left → left ≡ line ∷ after → length rows + 1 ≤ length lines
rows_left lines rows left after line so next =
    let sum : length lines ≡ length (map row_text rows) + length left = ap length so ∙ length-append (map row_text rows) left in
    let more : length left ≡ suc (length after) = ap length next in
    omega (arith, sum, length-map rows row_text, more)

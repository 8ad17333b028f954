-- A row and its bits, place by place.
use Rattle.std.proofs.Common.{◌≡◌, ◌∙◌, ◌<◌, ◌≤◌, ◌+◌, ℕ, zero, suc, Bool, true, false, ◌&&◌, List, [], ◌∷◌, length, drop, get_or, ap, arith}
use Rattle.std.proofs.lemmas.List.{drop_all}
use Rattle.circuit_theory.specs.Cover.{place_matches, row_matches}

-- what is left of a row matches if its first place does, and what is left behind it
pub row_next : (row : List ℕ) (bits : List Bool) (i : ℕ) → length row ≡ length bits → i < length row
    → row_matches (drop i row) (drop i bits) ≡ (place_matches (get_or row i 0) (get_or bits i false) && row_matches (drop (i + 1) row) (drop (i + 1) bits))
row_next row bits i same inside = by row bits i (i + 1) (omega arith) same inside
  where
    by : (row : List ℕ) (bits : List Bool) (i n : ℕ) → n ≡ i + 1 → length row ≡ length bits → i < length row → row_matches (drop i row) (drop i bits) ≡ (place_matches (get_or row i 0) (get_or bits i false) && row_matches (drop n row) (drop n bits))
    by [] bits i n e same inside = absurd (omega (arith, inside))
    by (p ∷ row) [] i n e same inside = absurd (omega (arith, same))
    by (p ∷ row) (b ∷ bits) zero n e same inside =
        let one : 1 ≡ n = omega (arith, e) in
        ap (λ (m : ℕ). place_matches p b && row_matches (drop m (p ∷ row)) (drop m (b ∷ bits))) one
    by (p ∷ row) (b ∷ bits) (suc i) zero e same inside = absurd (omega (arith, e))
    by (p ∷ row) (b ∷ bits) (suc i) (suc n) e same inside = by row bits i n (omega (arith, e)) (omega (arith, same)) (omega (arith, inside))

-- nothing is left behind the last place
pub row_end : (row : List ℕ) (bits : List Bool) (i : ℕ) → length row ≡ length bits → length row ≤ i → row_matches (drop i row) (drop i bits) ≡ true
row_end row bits i same over =
    ap (λ (r : List ℕ). row_matches r (drop i bits)) (drop_all i row over) ∙ ap (λ (b : List Bool). row_matches [] b) (drop_all i bits (omega (arith, same, over)))

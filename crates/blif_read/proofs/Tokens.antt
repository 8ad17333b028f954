-- The first, the last and the other tokens.
use Rattle.std.proofs.Common.{◌≡◌, ℕ, zero, suc, ◌-◌, ◌<◌, List, [], ◌∷◌, length, map, take, get_or, refl, ap, arith, Bor}
use Rattle.blif_read.specs.Heads.{last_or_empty, but_last}

last_at : (xs : List (Bor (List ℕ))) (d : Bor (List ℕ)) (n : ℕ) → length xs ≡ suc n → last_or_empty (map (λ x. x.now) xs) ≡ (get_or xs n d).now
last_at [] d n e = absurd (omega arith)
last_at (x ∷ []) d zero e = refl
last_at (x ∷ []) d (suc n) e = absurd (omega arith)
last_at (x ∷ y ∷ ys) d zero e = absurd (omega arith)
last_at (x ∷ y ∷ ys) d (suc n) e = last_at (y ∷ ys) d n (omega arith)

-- the last stands before the end
pub last_behind : (xs : List (Bor (List ℕ))) (d : Bor (List ℕ)) → 0 < length xs → last_or_empty (map (λ x. x.now) xs) ≡ (get_or xs (length xs - 1) d).now
last_behind xs d h = last_at xs d (length xs - 1) (omega arith)

but_last_at : (xs : List (Bor (List ℕ))) (n : ℕ) → length xs ≡ suc n → but_last (map (λ x. x.now) xs) ≡ map (λ x. x.now) (take n xs)
but_last_at [] n e = absurd (omega arith)
but_last_at (x ∷ []) zero e = refl
but_last_at (x ∷ []) (suc n) e = absurd (omega arith)
but_last_at (x ∷ y ∷ ys) zero e = absurd (omega arith)
but_last_at (x ∷ y ∷ ys) (suc n) e = ap (λ rest. x.now ∷ rest) (but_last_at (y ∷ ys) n (omega arith))

-- the others stand before the last
pub but_last_behind : (xs : List (Bor (List ℕ))) → 0 < length xs → but_last (map (λ x. x.now) xs) ≡ map (λ x. x.now) (take (length xs - 1) xs)
but_last_behind xs h = but_last_at xs (length xs - 1) (omega arith)

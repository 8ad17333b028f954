-- Lines of variables and their bits, one more.
use Rattle.std.proofs.Common.{◌≡◌, ◌∙◌, ℕ, zero, suc, ◌+◌, ◌<◌, List, [], ◌∷◌, ◌++◌, length, take, get_or, refl, sym, ap, arith, add-one, append_assoc}
use Rattle.std.specs.Prelude.{zip}
use Rattle.std.specs.List.{flat_map}

append_nothing : (xs : List ℕ) → xs ++ [] ≡ xs
append_nothing [] = refl
append_nothing (x ∷ xs) = ap (λ (ys : List ℕ). x ∷ ys) (append_nothing xs)

-- the text of the pairs up to the next one
zip_more : {X Y : Type 0} (f : X × Y → List ℕ) (xs : List X) (ys : List Y) (k : ℕ) (d : X) (e : Y) → k < length xs → k < length ys →
    flat_map f (take (suc k) (zip xs ys)) ≡ flat_map f (take k (zip xs ys)) ++ f (get_or xs k d, get_or ys k e)
zip_more f [] ys k d e h i = absurd (omega (arith, h))
zip_more f (x ∷ xs) [] k d e h i = absurd (omega (arith, i))
zip_more f (x ∷ xs) (y ∷ ys) zero d e h i = append_nothing (f (x, y))
zip_more f (x ∷ xs) (y ∷ ys) (suc k) d e h i =
    ap (λ (t : List ℕ). f (x, y) ++ t) (zip_more f xs ys k d e (omega (arith, h)) (omega (arith, i))) ∙ sym (append_assoc (f (x, y)) (flat_map f (take k (zip xs ys))) (f (get_or xs k d, get_or ys k e)))

pub zip_next : {X Y : Type 0} (f : X × Y → List ℕ) (xs : List X) (ys : List Y) (k : ℕ) (d : X) (e : Y) → k < length xs → k < length ys →
    flat_map f (take (k + 1) (zip xs ys)) ≡ flat_map f (take k (zip xs ys)) ++ f (get_or xs k d, get_or ys k e)
zip_next f xs ys k d e h i = ap (λ (n : ℕ). flat_map f (take n (zip xs ys))) (add-one k) ∙ zip_more f xs ys k d e h i

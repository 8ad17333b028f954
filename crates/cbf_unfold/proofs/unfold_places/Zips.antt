-- Two lists beside one another.
use Rattle.std.proofs.Common.{◌≡◌, ◌+◌, ◌<◌, ℕ, List, [], ◌∷◌, ◌++◌, length, take, get_or, slice_get, Some, zero, suc, refl, sym, subst, arith, inl, inr}
use Rattle.std.specs.Prelude.{◌⊎◌}
use Rattle.std.specs.List.{AllZip, Contains}
use Rattle.std.proofs.lemmas.List.{take_more}
use Rattle.std.proofs.lemmas.Option.{none-some, same_Some}
use Rattle.circuit_theory.proofs.Lists.{Contains-head, Contains-tail, Contains-cases, zip_push}

-- what stands beside an element of either list
pub zip_to : {X Y : Type 0} (R : X → Y → Type 0) (xs : List X) (ys : List Y) (x : X) → AllZip R xs ys → Contains xs x → (y : Y) × Contains ys y × R x y
zip_to R [] ys x zip h = absurd (omega (arith, h.1))
zip_to R (w ∷ xs) [] x zip h = absurd zip
zip_to {X} {Y} R (w ∷ xs) (z ∷ ys) x zip h = go (λ k. zip_to R xs ys x zip.1 k) (Contains-cases w x xs h)
  where
    go : (Contains xs x → (y : Y) × Contains ys y × R x y) → (w ≡ x) ⊎ Contains xs x → (y : Y) × Contains (z ∷ ys) y × R x y
    go later (inl e) = (z, Contains-head z ys, subst (λ v. R v z) e zip.0)
    go later (inr k) = let r = later k in (r.0, Contains-tail z r.0 ys r.1, r.2)

pub zip_back : {X Y : Type 0} (R : X → Y → Type 0) (xs : List X) (ys : List Y) (y : Y) → AllZip R xs ys → Contains ys y → (x : X) × Contains xs x × R x y
zip_back R [] [] y zip h = absurd (omega (arith, h.1))
zip_back R [] (z ∷ ys) y zip h = absurd zip
zip_back R (w ∷ xs) [] y zip h = absurd zip
zip_back {X} {Y} R (w ∷ xs) (z ∷ ys) y zip h = go (λ k. zip_back R xs ys y zip.1 k) (Contains-cases z y ys h)
  where
    go : (Contains ys y → (x : X) × Contains xs x × R x y) → (z ≡ y) ⊎ Contains ys y → (x : X) × Contains (w ∷ xs) x × R x y
    go later (inl e) = (w, Contains-head w xs, subst (R w) e zip.0)
    go later (inr k) = let r = later k in (r.0, Contains-tail w r.0 xs r.1, r.2)

-- a pair of lists with one element more each
pub zip_more_left : {X Y : Type 0} (R : X → Y → Type 0) (xs : List X) (ys : List Y) (i : ℕ) (d : X) (y : Y) → i < length xs → AllZip R (take i xs) ys → R (get_or xs i d) y → AllZip R (take (i + 1) xs) (ys ++ y ∷ [])
zip_more_left R xs ys i d y inside zip here = subst (λ l. AllZip R l (ys ++ y ∷ [])) (sym (take_more xs i d inside)) (zip_push R (take i xs) ys (get_or xs i d) y zip here)

-- what stands at a place of the left list, beside that of the right
pub zip_left : {X Y : Type 0} (R : X → Y → Type 0) (xs : List X) (ys : List Y) → AllZip R xs ys → (i : ℕ) (y : Y) → slice_get ys i ≡ Some y → (x : X) × (slice_get xs i ≡ Some x) × R x y
zip_left R [] [] h i y e = absurd (none-some y e)
zip_left R [] (z ∷ ys) h i y e = absurd h
zip_left R (x ∷ xs) [] h i y e = absurd h
zip_left R (x ∷ xs) (z ∷ ys) h zero y e = let same : z ≡ y = same_Some z y e in (x, refl, subst (R x) same h.0)
zip_left R (x ∷ xs) (z ∷ ys) h (suc i) y e = zip_left R xs ys h.1 i y e

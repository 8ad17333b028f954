-- Lists joined in a row, and items by their places.
use Rattle.std.proofs.Common.{◌≡◌, ◌+◌, ◌∙◌, ℕ, zero, suc, List, [], ◌∷◌, ◌++◌, length, map, take, drop, slice_get, Some, refl, sym, ap, subst, arith, inl, inr, append_assoc, append-nil}
use Rattle.std.specs.Prelude.{◌⊎◌}
use Rattle.std.proofs.lemmas.Option.{none-some, same_Some}
use Rattle.std.proofs.lemmas.List.{map-append}
use Rattle.base_tables.proofs.TableLemmas.{take-push}
use Rattle.flatten.specs.connectivity.Wiring.{joined}

-- what stands in a list stands in a longer one
pub slice_get-append : {X : Type 0} (xs ys : List X) (i : ℕ) (x : X) → slice_get xs i ≡ Some x → slice_get (xs ++ ys) i ≡ Some x
slice_get-append [] ys i x h = absurd (none-some x h)
slice_get-append (z ∷ xs) ys zero x h = h
slice_get-append (z ∷ xs) ys (suc i) x h = slice_get-append xs ys i x h

-- and behind another list too
pub slice_get-append_right : {X : Type 0} (xs ys : List X) (j : ℕ) (x : X) → slice_get ys j ≡ Some x → slice_get (xs ++ ys) (length xs + j) ≡ Some x
slice_get-append_right [] ys j x h = let e : 0 + j ≡ j = omega arith in ap (slice_get ys) e ∙ h
slice_get-append_right (z ∷ xs) ys j x h =
    let e : suc (length xs) + j ≡ suc (length xs + j) = omega arith in
    ap (slice_get ((z ∷ xs) ++ ys)) e ∙ slice_get-append_right xs ys j x h

-- what stands in two lists stands in the first or in the second
pub slice_get-append_cases : {X : Type 0} (xs ys : List X) (i : ℕ) (x : X) → slice_get (xs ++ ys) i ≡ Some x → (slice_get xs i ≡ Some x) ⊎ ((j : ℕ) × (length xs + j ≡ i) × (slice_get ys j ≡ Some x))
slice_get-append_cases [] ys i x h = inr (i, omega arith, h)
slice_get-append_cases (z ∷ xs) ys zero x h = inl h
slice_get-append_cases {X} (z ∷ xs) ys (suc i) x h = later (slice_get-append_cases xs ys i x h)
  where
    later : (slice_get xs i ≡ Some x) ⊎ ((j : ℕ) × (length xs + j ≡ i) × (slice_get ys j ≡ Some x)) → (slice_get xs i ≡ Some x) ⊎ ((j : ℕ) × (length (z ∷ xs) + j ≡ suc i) × (slice_get ys j ≡ Some x))
    later (inl old) = inl old
    later (inr (j, e, at)) = inr (j, omega (arith, e), at)

-- a list around the item at a place
pub split_at : {X : Type 0} (xs : List X) (i : ℕ) (x : X) → slice_get xs i ≡ Some x → xs ≡ (take i xs ++ x ∷ []) ++ drop (suc i) xs
split_at [] i x h = absurd (none-some x h)
split_at (y ∷ xs) zero x h = ap (λ z. z ∷ xs) (same_Some y x h)
split_at (y ∷ xs) (suc i) x h = ap (λ zs. y ∷ zs) (split_at xs i x h)

pub joined-append : {X Y : Type 0} (f : X → List Y) (xs ys : List X) → joined f (xs ++ ys) ≡ joined f xs ++ joined f ys
joined-append f [] ys = refl
joined-append f (x ∷ xs) ys = ap (λ zs. f x ++ zs) (joined-append f xs ys) ∙ sym (append_assoc (f x) (joined f xs) (joined f ys))

-- one item more
pub joined_push : {X Y : Type 0} (f : X → List Y) (xs : List X) (x : X) → joined f (xs ++ x ∷ []) ≡ joined f xs ++ f x
joined_push f xs x = joined-append f xs (x ∷ []) ∙ ap (λ zs. joined f xs ++ zs) (append-nil (f x))

pub joined_more : {X Y : Type 0} (f : X → List Y) (xs : List X) (i : ℕ) (x : X) → slice_get xs i ≡ Some x → joined f (take (i + 1) xs) ≡ joined f (take i xs) ++ f x
joined_more f xs i x h = ap (joined f) (sym (take-push xs i x h)) ∙ joined_push f (take i xs) x

-- the row around what one item gives
pub joined_split : {X Y : Type 0} (f : X → List Y) (xs : List X) (i : ℕ) (x : X) → slice_get xs i ≡ Some x → joined f xs ≡ (joined f (take i xs) ++ f x) ++ joined f (drop (suc i) xs)
joined_split f xs i x h =
    ap (joined f) (split_at xs i x h)
    ∙ joined-append f (take i xs ++ x ∷ []) (drop (suc i) xs)
    ∙ ap (λ zs. zs ++ joined f (drop (suc i) xs)) (joined_push f (take i xs) x)

pub joined-map : {X Y Z : Type 0} (f : Y → List Z) (g : X → Y) (xs : List X) → joined f (map g xs) ≡ joined (λ x. f (g x)) xs
joined-map f g [] = refl
joined-map f g (x ∷ xs) = ap (λ zs. f (g x) ++ zs) (joined-map f g xs)

pub joined_same : {X Y : Type 0} (f g : X → List Y) (xs : List X) → ((x : X) → f x ≡ g x) → joined f xs ≡ joined g xs
joined_same f g [] same = refl
joined_same f g (x ∷ xs) same = ap (λ zs. zs ++ joined f xs) (same x) ∙ ap (λ zs. g x ++ zs) (joined_same f g xs same)

pub map-joined : {X Y Z : Type 0} (g : Y → Z) (f : X → List Y) (xs : List X) → map g (joined f xs) ≡ joined (λ x. map g (f x)) xs
map-joined g f [] = refl
map-joined g f (x ∷ xs) = map-append g (f x) (joined f xs) ∙ ap (λ zs. map g (f x) ++ zs) (map-joined g f xs)

-- what stands in a row comes from one of the items
pub Contains-joined_from : {X Y : Type 0} (f : X → List Y) (xs : List X) (y : Y) (i : ℕ) → slice_get (joined f xs) i ≡ Some y → (j : ℕ) × (x : X) × (slice_get xs j ≡ Some x) × (k : ℕ) × (slice_get (f x) k ≡ Some y)
Contains-joined_from f [] y i h = absurd (none-some y h)
Contains-joined_from {X} f (x ∷ xs) y i h = by (slice_get-append_cases (f x) (joined f xs) i y h) (λ j at. Contains-joined_from f xs y j at)
  where
    by : (slice_get (f x) i ≡ Some y) ⊎ ((j : ℕ) × (length (f x) + j ≡ i) × (slice_get (joined f xs) j ≡ Some y))
        → ((j : ℕ) → slice_get (joined f xs) j ≡ Some y → (m : ℕ) × (z : X) × (slice_get xs m ≡ Some z) × (k : ℕ) × (slice_get (f z) k ≡ Some y))
        → (m : ℕ) × (z : X) × (slice_get (x ∷ xs) m ≡ Some z) × (k : ℕ) × (slice_get (f z) k ≡ Some y)
    by (inl here) later = (0, x, refl, i, here)
    by (inr (j, e, at)) later = let rest = later j at in (suc rest.0, rest.1, rest.2, rest.3, rest.4)

-- what one of the items gives stands in the row
pub Contains-joined : {X Y : Type 0} (f : X → List Y) (xs : List X) (j : ℕ) (x : X) (y : Y) (k : ℕ) → slice_get xs j ≡ Some x → slice_get (f x) k ≡ Some y → (i : ℕ) × (slice_get (joined f xs) i ≡ Some y)
Contains-joined f [] j x y k at here = absurd (none-some x at)
Contains-joined f (z ∷ xs) zero x y k at here =
    (k, slice_get-append (f z) (joined f xs) k y (subst (λ v. slice_get (f v) k ≡ Some y) (sym (same_Some z x at)) here))
Contains-joined f (z ∷ xs) (suc j) x y k at here =
    let rest = Contains-joined f xs j x y k at here in (length (f z) + rest.0, slice_get-append_right (f z) (joined f xs) rest.0 y rest.1)

-- Membership in lists, and functions over them.
use Rattle.std.proofs.Common.{◌≡◌, ℕ, zero, suc, ◌<◌, Bool, true, false, cond, List, [], ◌∷◌, ◌++◌, length, get_or, map, refl, sym, ◌∙◌, ap, subst, arith, inl, inr, Option, Some, None, slice_get}
use Rattle.std.specs.Prelude.{◌⊎◌}
use Rattle.std.specs.List.{All, AllZip, Contains, filter, filter_map, cons_option}
use Rattle.std.proofs.lemmas.List.Elements.{All-nil, All-cons}
use Rattle.std.proofs.lemmas.Option.{slice_get-get_or, slice_get_within, get_or_from_slice_get}

pub Contains-head : {X : Type 0} (x : X) (xs : List X) → Contains (x ∷ xs) x
Contains-head x xs = (0, omega arith, refl)

pub Contains-tail : {X : Type 0} (x y : X) (xs : List X) → Contains xs y → Contains (x ∷ xs) y
Contains-tail x y xs h = (suc h.0, omega arith, h.2)

pub Contains-cases : {X : Type 0} (x y : X) (xs : List X) → Contains (x ∷ xs) y → (x ≡ y) ⊎ Contains xs y
Contains-cases {X} x y xs h = go h.0 h.1 h.2
  where
    go : (k : ℕ) → k < length (x ∷ xs) → get_or (x ∷ xs) k y ≡ y → (x ≡ y) ⊎ Contains xs y
    go zero l e = inl e
    go (suc k) l e = inr (k, omega arith, e)

-- functions that agree at each element give one list
pub map_same : {X Y : Type 0} (f g : X → Y) (xs : List X) → ((x : X) → Contains xs x → f x ≡ g x) → map f xs ≡ map g xs
map_same f g [] h = refl
map_same f g (x ∷ xs) h =
    let head : f x ≡ g x = h x (Contains-head x xs) in
    let tail : map f xs ≡ map g xs = map_same f g xs (λ y k. h y (Contains-tail x y xs k)) in
    cc

pub map-map : {X Y Z : Type 0} (g : Y → Z) (f : X → Y) (xs : List X) → map g (map f xs) ≡ map (λ x. g (f x)) xs
map-map g f [] = refl
map-map g f (x ∷ xs) = ap (λ zs. g (f x) ∷ zs) (map-map g f xs)

pub Contains-map : {X Y : Type 0} (f : X → Y) (xs : List X) (x : X) → Contains xs x → Contains (map f xs) (f x)
Contains-map f [] x h = absurd (omega (arith, h.1))
Contains-map f (y ∷ xs) x h = go (Contains-cases y x xs h) (λ k. Contains-map f xs x k)
  where
    go : (y ≡ x) ⊎ Contains xs x → (Contains xs x → Contains (map f xs) (f x)) → Contains (f y ∷ map f xs) (f x)
    go (inl e) ih = subst (λ z. Contains (f y ∷ map f xs) z) (ap f e) (Contains-head (f y) (map f xs))
    go (inr k) ih = Contains-tail (f y) (f x) (map f xs) (ih k)

pub Contains-map_from : {X Y : Type 0} (f : X → Y) (xs : List X) (y : Y) → Contains (map f xs) y → (x : X) × Contains xs x × (f x ≡ y)
Contains-map_from f [] y h = absurd (omega (arith, h.1))
Contains-map_from {X} f (x ∷ xs) y h = go (Contains-cases (f x) y (map f xs) h) (λ k. Contains-map_from f xs y k)
  where
    go : (f x ≡ y) ⊎ Contains (map f xs) y → (Contains (map f xs) y → (z : X) × Contains xs z × (f z ≡ y)) → (z : X) × Contains (x ∷ xs) z × (f z ≡ y)
    go (inl e) ih = (x, Contains-head x xs, e)
    go (inr k) ih = let r = ih k in (r.0, Contains-tail x r.0 xs r.1, r.2)

pub filter_map-from : {X Y : Type 0} (f : X → Option Y) (xs : List X) (y : Y) → Contains (filter_map f xs) y → (x : X) × Contains xs x × (f x ≡ Some y)
filter_map-from f [] y h = absurd (omega (arith, h.1))
filter_map-from {X} {Y} f (x ∷ xs) y h = go (λ k. filter_map-from f xs y k) (f x) refl
  where
    go : (Contains (filter_map f xs) y → (x : X) × Contains xs x × (f x ≡ Some y)) → (o : Option Y) → f x ≡ o → (z : X) × Contains (x ∷ xs) z × (f z ≡ Some y)
    go later None e = let r = later (subst (λ (ys : List Y). Contains ys y) (ap (λ o. cons_option o (filter_map f xs)) e) h) in (r.0, Contains-tail x r.0 xs r.1, r.2)
    go later (Some w) e = pick (Contains-cases w y (filter_map f xs) (subst (λ (ys : List Y). Contains ys y) (ap (λ o. cons_option o (filter_map f xs)) e) h))
      where
        pick : (w ≡ y) ⊎ Contains (filter_map f xs) y → (z : X) × Contains (x ∷ xs) z × (f z ≡ Some y)
        pick (inl q) = (x, Contains-head x xs, e ∙ ap Some q)
        pick (inr k) = let r = later k in (r.0, Contains-tail x r.0 xs r.1, r.2)

pub Contains-filter : {X : Type 0} (test : X → Bool) (xs : List X) (x : X) → Contains (filter test xs) x → Contains xs x
Contains-filter test [] x h = absurd (omega (arith, h.1))
Contains-filter {X} test (y ∷ xs) x h = go (test y) refl (λ k. Contains-filter test xs x k)
  where
    go : (b : Bool) → test y ≡ b → (Contains (filter test xs) x → Contains xs x) → Contains (y ∷ xs) x
    go true e ih = pick (Contains-cases y x (filter test xs) (subst (λ (ys : List X). Contains ys x) (ap (λ b. cond b (y ∷ filter test xs) (filter test xs)) e) h))
      where
        pick : (y ≡ x) ⊎ Contains (filter test xs) x → Contains (y ∷ xs) x
        pick (inl q) = subst (Contains (y ∷ xs)) q (Contains-head y xs)
        pick (inr k) = Contains-tail y x xs (ih k)
    go false e ih = Contains-tail y x xs (ih (subst (λ (ys : List X). Contains ys x) (ap (λ b. cond b (y ∷ filter test xs) (filter test xs)) e) h))

-- and meets the test
pub filter_test : {X : Type 0} (test : X → Bool) (xs : List X) (x : X) → Contains (filter test xs) x → test x ≡ true
filter_test test [] x h = absurd (omega (arith, h.1))
filter_test {X} test (y ∷ xs) x h = go (test y) refl (λ k. filter_test test xs x k)
  where
    go : (b : Bool) → test y ≡ b → (Contains (filter test xs) x → test x ≡ true) → test x ≡ true
    go true e later = pick (Contains-cases y x (filter test xs) (subst (λ (ys : List X). Contains ys x) (ap (λ b. cond b (y ∷ filter test xs) (filter test xs)) e) h))
      where
        pick : (y ≡ x) ⊎ Contains (filter test xs) x → test x ≡ true
        pick (inl q) = sym (ap test q) ∙ e
        pick (inr k) = later k
    go false e later = later (subst (λ (ys : List X). Contains ys x) (ap (λ b. cond b (y ∷ filter test xs) (filter test xs)) e) h)

-- the one element of a list
pub only : {X : Type 0} (x y : X) → Contains (x ∷ []) y → x ≡ y
only x y h = go (Contains-cases x y [] h)
  where
    go : (x ≡ y) ⊎ Contains [] y → x ≡ y
    go (inl e) = e
    go (inr k) = absurd (omega (arith, k.1))

-- what holds of each element
pub All-from_each : {X : Type 0} (F : X → Type 0) (xs : List X) → ((x : X) → Contains xs x → F x) → All F xs
All-from_each F [] h = All-nil F
All-from_each F (x ∷ xs) h = All-cons F x xs (h x (Contains-head x xs)) (All-from_each F xs (λ y k. h y (Contains-tail x y xs k)))

-- an element stands at a place
pub at_of : {X : Type 0} (xs : List X) (x : X) → Contains xs x → (i : ℕ) × (slice_get xs i ≡ Some x)
at_of xs x h = (h.0, slice_get-get_or xs h.0 x h.1 ∙ ap Some h.2)

-- what stands at a place is an element
pub of_at : {X : Type 0} (xs : List X) (i : ℕ) (x : X) → slice_get xs i ≡ Some x → Contains xs x
of_at xs i x h = (i, slice_get_within xs i x h, get_or_from_slice_get xs i x x h)

pub zip_push : {X Y : Type 0} (R : X → Y → Type 0) (xs : List X) (ys : List Y) (x : X) (y : Y) → AllZip R xs ys → R x y → AllZip R (xs ++ x ∷ []) (ys ++ y ∷ [])
zip_push R [] [] x y h r = (r, tt)
zip_push R [] (y' ∷ ys) x y h r = absurd h
zip_push R (x' ∷ xs) [] x y h r = absurd h
zip_push R (x' ∷ xs) (y' ∷ ys) x y h r = (h.0, zip_push R xs ys x y h.1 r)

pub zip_weaker : {X Y : Type 0} (R S : X → Y → Type 0) → ((x : X) (y : Y) → R x y → S x y) → (xs : List X) (ys : List Y) → AllZip R xs ys → AllZip S xs ys
zip_weaker R S f [] [] h = tt
zip_weaker R S f [] (y ∷ ys) h = absurd h
zip_weaker R S f (x ∷ xs) [] h = absurd h
zip_weaker R S f (x ∷ xs) (y ∷ ys) h = (f x y h.0, zip_weaker R S f xs ys h.1)

pub zip_length : {X Y : Type 0} (R : X → Y → Type 0) (xs : List X) (ys : List Y) → AllZip R xs ys → length xs ≡ length ys
zip_length R [] [] h = refl
zip_length R [] (y ∷ ys) h = absurd h
zip_length R (x ∷ xs) [] h = absurd h
zip_length R (x ∷ xs) (y ∷ ys) h = ap suc (zip_length R xs ys h.1)

-- each element on the left has its element on the right
pub zip_right : {X Y : Type 0} (R : X → Y → Type 0) (xs : List X) (ys : List Y) → AllZip R xs ys → (i : ℕ) (x : X) → slice_get xs i ≡ Some x → (y : Y) × (slice_get ys i ≡ Some y) × R x y
zip_right R [] [] h i x e = absurd (let k = slice_get_within [] i x e in omega arith)
zip_right R [] (y ∷ ys) h i x e = absurd h
zip_right R (x' ∷ xs) [] h i x e = absurd h
zip_right R (x' ∷ xs) (y ∷ ys) h zero x e = let same : x' ≡ x = unwrap e in (y, refl, subst (λ z. R z y) same h.0)
  where
    unwrap : Some x' ≡ Some x → x' ≡ x
    unwrap q = cc
zip_right R (x' ∷ xs) (y ∷ ys) h (suc i) x e = zip_right R xs ys h.1 i x e

pub length-map : {X Y : Type 0} (f : X → Y) (xs : List X) → length (map f xs) ≡ length xs
length-map f [] = refl
length-map f (x ∷ xs) = ap suc (length-map f xs)

-- what a mapped list has at a place comes from the element there
pub map_at : {X Y : Type 0} (f : X → Y) (xs : List X) (i : ℕ) (y : Y) → slice_get (map f xs) i ≡ Some y → (x : X) × (slice_get xs i ≡ Some x) × (f x ≡ y)
map_at f [] i y h = absurd (nothing i h)
  where
    nothing : (i : ℕ) → slice_get [] i ≡ Some y → ⊥
    nothing zero q = cc
    nothing (suc i) q = cc
map_at f (x ∷ xs) zero y h = (x, refl, unwrap h)
  where
    unwrap : Some (f x) ≡ Some y → f x ≡ y
    unwrap q = cc
map_at f (x ∷ xs) (suc i) y h = map_at f xs i y h

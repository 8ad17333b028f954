-- A fact for each item of a list.
use Rattle.std.proofs.Common.{◌≡◌, ℕ, zero, suc, Bool, true, false, cond, List, [], ◌∷◌, ◌++◌, map, take, drop, reverse, refl, arith, All}
use mathlib.Core.List.{reverse_aux}
use Rattle.std.specs.List.{filter, slice_split, onto_first, list_all}

abbrev pub Each : {X : Type 0} → (X → Type 0) → List X → Type 0
Each P [] = Unit {0}
Each P (x ∷ xs) = P x × Each P xs

pub each_append : {X : Type 0} (P : X → Type 0) (xs ys : List X) → Each P xs → Each P ys → Each P (xs ++ ys)
each_append P [] ys a b = b
each_append P (x ∷ xs) ys a b = (a.0, each_append P xs ys a.1 b)

pub each_take : {X : Type 0} (P : X → Type 0) (n : ℕ) (xs : List X) → Each P xs → Each P (take n xs)
each_take P zero xs a = tt
each_take P (suc n) [] a = tt
each_take P (suc n) (x ∷ xs) a = (a.0, each_take P n xs a.1)

pub each_drop : {X : Type 0} (P : X → Type 0) (n : ℕ) (xs : List X) → Each P xs → Each P (drop n xs)
each_drop P zero xs a = a
each_drop P (suc n) [] a = tt
each_drop P (suc n) (x ∷ xs) a = each_drop P n xs a.1

pub each_map : {X Y : Type 0} (P : X → Type 0) (Q : Y → Type 0) (f : X → Y) → ((x : X) → P x → Q (f x)) → (xs : List X) → Each P xs → Each Q (map f xs)
each_map P Q f step [] a = tt
each_map P Q f step (x ∷ xs) a = (step x a.0, each_map P Q f step xs a.1)

pub each_filter : {X : Type 0} (P : X → Type 0) (p : X → Bool) (xs : List X) → Each P xs → Each P (filter p xs)
each_filter P p [] a = tt
each_filter P p (x ∷ xs) a = go (p x) (each_filter P p xs a.1)
  where
    go : (b : Bool) → Each P (filter p xs) → Each P (cond b (x ∷ filter p xs) (filter p xs))
    go true rest = (a.0, rest)
    go false rest = rest

onto : {X : Type 0} (P : X → Type 0) (x : X) (parts : List (List X)) → P x → Each (Each P) parts → Each (Each P) (onto_first x parts)
onto P x [] h a = ((h, tt), tt)
onto P x (part ∷ parts) h a = ((h, a.0), a.1)

pub each_split : {X : Type 0} (P : X → Type 0) (p : X → Bool) (xs : List X) → Each P xs → Each (Each P) (slice_split p xs)
each_split P p [] a = (tt, tt)
each_split P p (x ∷ xs) a = go (p x) (each_split P p xs a.1)
  where
    go : (b : Bool) → Each (Each P) (slice_split p xs) → Each (Each P) (cond b ([] ∷ slice_split p xs) (onto_first x (slice_split p xs)))
    go true rest = (tt, rest)
    go false rest = onto P x (slice_split p xs) a.0 rest

each_aux : {X : Type 0} (P : X → Type 0) (xs ys : List X) → Each P xs → Each P ys → Each P (reverse_aux xs ys)
each_aux P [] ys a b = b
each_aux P (x ∷ xs) ys a b = each_aux P xs (x ∷ ys) a.1 (a.0, b)

pub each_reverse : {X : Type 0} (P : X → Type 0) (xs : List X) → Each P xs → Each P (reverse xs)
each_reverse P xs a = each_aux P xs [] a tt

pub each_all : {X : Type 0} (P : X → Type 0) (xs : List X) → All P xs → Each P xs
each_all P [] a = tt
each_all P (x ∷ xs) a = (a 0 x (omega arith), each_all P xs (λ k d h. a (suc k) d (omega arith)))

pub each_test : {X : Type 0} (P : X → Type 0) (p : X → Bool) → ((x : X) → P x → p x ≡ true) → (xs : List X) → Each P xs → list_all p xs ≡ true
each_test P p step [] a = refl
each_test P p step (x ∷ xs) a = rw (step x a.0) (each_test P p step xs a.1)

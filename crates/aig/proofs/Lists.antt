-- Lists that grow at their end, and pairs of elements.
use Rattle.std.proofs.Common.{◌≡◌, ◌∙◌, ◌+◌, ◌<◌, ◌≤◌, ℕ, zero, suc, List, [], ◌∷◌, ◌++◌, length, take, map, slice_get, Some, refl, sym, ap, subst, arith, inl, inr, length-append, append-nil, append_assoc}
use Rattle.std.specs.Prelude.{◌⊎◌}
use Rattle.std.specs.List.{AllPairs, Contains, sum_by}
use Rattle.std.proofs.lemmas.List.{take-append-le}
use Rattle.std.proofs.lemmas.List.Elements.{All-nil, All-append, All-push, All-weaker, All-map, All-contains, Contains-append_left}
use Rattle.std.proofs.lemmas.List.Kept.{AllPairs-cons}
use Rattle.std.proofs.lemmas.List.Sums.{sum_by-cons}
use Rattle.std.proofs.lemmas.Option.{slice_get_within, same_Some}
use Rattle.circuit_theory.proofs.Lists.{Contains-head, Contains-tail, Contains-cases, All-from_each, at_of, of_at}
use Rattle.circuit_theory.proofs.Sums.{AllPairs-head, AllPairs-tail}
use Rattle.aig.specs.Adds.{Adds}
use Rattle.aig.proofs.Growth.{slice_get-append}

pub adds_none : {X : Type 0} (P : X → Type 0) (xs ys : List X) → ys ≡ xs → Adds P xs ys
adds_none P xs ys same = record { more = []; is = same ∙ sym (append-nil xs); each = All-nil P }

pub adds_trans : {X : Type 0} (P : X → Type 0) (xs ys zs : List X) → Adds P xs ys → Adds P ys zs → Adds P xs zs
adds_trans P xs ys zs a b =
    record { more = a.more ++ b.more; is = b.is ∙ ap (λ l. l ++ b.more) a.is ∙ append_assoc xs a.more b.more; each = All-append P a.more b.more a.each b.each }

pub adds_push : {X : Type 0} (P : X → Type 0) (xs ys : List X) (x : X) → ys ≡ xs ++ x ∷ [] → P x → Adds P xs ys
adds_push P xs ys x is here = record { more = x ∷ []; is = is; each = All-push P [] x (All-nil P) here }

pub adds_weaker : {X : Type 0} (P Q : X → Type 0) (xs ys : List X) → ((x : X) → P x → Q x) → Adds P xs ys → Adds Q xs ys
adds_weaker P Q xs ys f a = record { more = a.more; is = a.is; each = All-weaker P Q f a.more a.each }

pub adds_contains : {X : Type 0} (P : X → Type 0) (xs ys : List X) (x : X) → Adds P xs ys → Contains xs x → Contains ys x
adds_contains P xs ys x a h = subst (λ l. Contains l x) (sym a.is) (Contains-append_left xs a.more x h)

pub adds_at : {X : Type 0} (P : X → Type 0) (xs ys : List X) (i : ℕ) (x : X) → Adds P xs ys → slice_get xs i ≡ Some x → slice_get ys i ≡ Some x
adds_at P xs ys i x a h = ap (λ l. slice_get l i) a.is ∙ slice_get-append xs a.more i x h

pub adds_length : {X : Type 0} (P : X → Type 0) (xs ys : List X) → Adds P xs ys → length xs ≤ length ys
adds_length P xs ys a = omega (arith, ap length a.is, length-append xs a.more)

pub adds_take : {X : Type 0} (P : X → Type 0) (xs ys : List X) (i : ℕ) → Adds P xs ys → i ≤ length xs → take i ys ≡ take i xs
adds_take P xs ys i a h = ap (take i) a.is ∙ take-append-le i xs a.more h

-- what stands at a place of both
pub append_cases : {X : Type 0} (xs ys : List X) (i : ℕ) (x : X) → slice_get (xs ++ ys) i ≡ Some x → (slice_get xs i ≡ Some x) ⊎ ((length xs ≤ i) × Contains ys x)
append_cases [] ys i x h = inr (omega arith, of_at ys i x h)
append_cases (y ∷ xs) ys zero x h = inl h
append_cases (y ∷ xs) ys (suc i) x h = elim (append_cases xs ys i x h) [ inl e ↦ inl e | inr e ↦ inr (omega (arith, e.0), e.1) ]

pub adds_cases : {X : Type 0} (P : X → Type 0) (xs ys : List X) (i : ℕ) (x : X) → Adds P xs ys → slice_get ys i ≡ Some x → (slice_get xs i ≡ Some x) ⊎ ((length xs ≤ i) × P x)
adds_cases P xs ys i x a h = go (append_cases xs a.more i x (ap (λ l. slice_get l i) (sym a.is) ∙ h))
  where
    go : (slice_get xs i ≡ Some x) ⊎ ((length xs ≤ i) × Contains a.more x) → (slice_get xs i ≡ Some x) ⊎ ((length xs ≤ i) × P x)
    go (inl e) = inl e
    go (inr e) = inr (e.0, All-contains P a.more x a.each e.1)

-- an element of the longer list is one of the shorter or has the property
pub adds_from : {X : Type 0} (P : X → Type 0) (xs ys : List X) (x : X) → Adds P xs ys → Contains ys x → Contains xs x ⊎ P x
adds_from P xs ys x a h = let at = at_of ys x h in elim (adds_cases P xs ys at.0 x a at.1) [ inl e ↦ inl (of_at xs at.0 x e) | inr e ↦ inr e.1 ]

-- pairs, through a function of the elements
pub pairs_map : {X Y : Type 0} (f : X → Y) (R : X → X → Type 0) (S : Y → Y → Type 0) (xs : List X) → ((x y : X) → Contains xs x → Contains xs y → R x y → S (f x) (f y)) → AllPairs R xs → AllPairs S (map f xs)
pairs_map f R S [] step h = λ i j d l m. absurd (omega arith)
pairs_map f R S (x ∷ xs) step h =
    AllPairs-cons S (f x) (map f xs)
    (All-map (λ y. S (f x) y) f xs (All-from_each (λ y. S (f x) (f y)) xs (λ y k. step x y (Contains-head x xs) (Contains-tail x y xs k) (AllPairs-head R x xs h y k))))
    (pairs_map f R S xs (λ y z k m r. step y z (Contains-tail x y xs k) (Contains-tail x z xs m) r) (AllPairs-tail R x xs h))

-- pairs in one order, by the places of both
pub pairs_at : {X : Type 0} (R : X → X → Type 0) (xs : List X) (i j : ℕ) (x y : X) → AllPairs R xs → i < j → slice_get xs i ≡ Some x → slice_get xs j ≡ Some y → R x y
pairs_at R [] i j x y h l hi hj = absurd (let k = slice_get_within [] i x hi in omega arith)
pairs_at R (z ∷ xs) zero zero x y h l hi hj = absurd (omega arith)
pairs_at R (z ∷ xs) zero (suc j) x y h l hi hj = subst (λ w. R w y) (same_Some z x hi) (AllPairs-head R z xs h y (of_at xs j y hj))
pairs_at R (z ∷ xs) (suc i) zero x y h l hi hj = absurd (omega arith)
pairs_at R (z ∷ xs) (suc i) (suc j) x y h l hi hj = pairs_at R xs i j x y (AllPairs-tail R z xs h) (omega arith) hi hj

-- a sum over a list that a function gives
pub sum_by-map : {X Y : Type 0} (w : Y → ℕ) (f : X → Y) (xs : List X) → sum_by w (map f xs) ≡ sum_by (λ x. w (f x)) xs
sum_by-map w f [] = refl
sum_by-map w f (x ∷ xs) = sum_by-cons w (f x) (map f xs) ∙ ap (λ n. w (f x) + n) (sum_by-map w f xs) ∙ sym (sum_by-cons (λ x. w (f x)) x xs)

-- the first element of a list that had none
pub only_one : {X : Type 0} (P : X → Type 0) (xs ys : List X) (x : X) → xs ≡ [] → Adds P xs ys → Contains ys x → length ys ≤ length xs + 1 → ys ≡ x ∷ []
only_one {X} P xs ys x none adds here few = go ys here (omega (arith, few, ap length none))
  where
    go : (zs : List X) → Contains zs x → length zs ≤ 1 → zs ≡ x ∷ []
    go [] h l = absurd (omega (arith, h.1))
    go (z ∷ []) h l = elim (Contains-cases z x [] h) [ inl e ↦ ap (λ y. y ∷ []) e | inr k ↦ absurd (omega (arith, k.1)) ]
    go (z ∷ y ∷ zs) h l = absurd (omega arith)

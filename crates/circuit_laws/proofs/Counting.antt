-- Lists without repeats are no longer than lists that have each of their members.
use Rattle.std.proofs.Common.{◌≡◌, ◌∙◌, ℕ, ◌+◌, ◌*◌, ◌≤◌, List, [], ◌∷◌, ◌++◌, length, map, refl, sym, subst, arith, inl, inr, length-append}
use Rattle.std.specs.List.{AllPairs, Contains, sum_by}
use Rattle.std.proofs.lemmas.List.Elements.{All-map, Contains-append_left, Contains-append_right}
use Rattle.std.proofs.lemmas.List.Kept.{AllPairs-cons}
use Rattle.std.proofs.lemmas.List.Sums.{sum_by-cons}
use Rattle.circuit_theory.proofs.Lists.{Contains-head, Contains-tail, Contains-cases, Contains-map, All-from_each, length-map}
use Rattle.circuit_theory.proofs.Sums.{AllPairs-head, AllPairs-tail, sum_within}

-- pairs, through a function of the elements
pub pairs_map : {X Y : Type 0} (f : X → Y) (R : X → X → Type 0) (S : Y → Y → Type 0) (xs : List X) → ((x y : X) → Contains xs x → Contains xs y → R x y → S (f x) (f y)) → AllPairs R xs → AllPairs S (map f xs)
pairs_map f R S [] step h = λ i j d l m. absurd (omega arith)
pairs_map f R S (x ∷ xs) step h =
    AllPairs-cons S (f x) (map f xs)
    (All-map (λ y. S (f x) y) f xs (All-from_each (λ y. S (f x) (f y)) xs (λ y k. step x y (Contains-head x xs) (Contains-tail x y xs k) (AllPairs-head R x xs h y k))))
    (pairs_map f R S xs (λ y z k m r. step y z (Contains-tail x y xs k) (Contains-tail x z xs m) r) (AllPairs-tail R x xs h))

ones : {X : Type 0} (xs : List X) → sum_by (λ x. 1) xs ≡ length xs
ones [] = refl
ones (x ∷ xs) = omega (arith, sum_by-cons (λ y. 1) x xs, ones xs)

pub fewer : {X : Type 0} (xs ys : List X) → AllPairs (λ x y. x ≡ y → ⊥) xs → ((x : X) → Contains xs x → Contains ys x) → length xs ≤ length ys
fewer {X} xs ys differ among =
    let sums : sum_by (λ (x : X). 1) xs ≤ sum_by (λ (x : X). 1) ys = sum_within (λ (x : X). 1) (λ (x y : X). x ≡ y) (λ x y z p q. p ∙ sym q) xs ys differ (λ x h. (x, among x h, refl, refl)) in
    omega (arith, sums, ones xs, ones ys)

-- the same of what a function makes of them
pub fewer_by : {X Y : Type 0} (f : X → Y) (xs : List X) (ys : List Y) → AllPairs (λ x y. f x ≡ f y → ⊥) xs → ((x : X) → Contains xs x → Contains ys (f x)) → length xs ≤ length ys
fewer_by {X} {Y} f xs ys differ among =
    let h = fewer (map f xs) ys (pairs_map f (λ x y. f x ≡ f y → ⊥) (λ x y. x ≡ y → ⊥) xs (λ x y k l apart same. apart same) differ) (λ y k. from y k) in
    omega (arith, h, length-map f xs)
  where
    from : (y : Y) → Contains (map f xs) y → Contains ys y
    from y k = go xs among k
      where
        go : (zs : List X) → ((x : X) → Contains zs x → Contains ys (f x)) → Contains (map f zs) y → Contains ys y
        go [] each h = absurd (let l = h.1 in omega (arith, l))
        go (z ∷ zs) each h = elim (Contains-cases (f z) y (map f zs) h) [
          | inl same ↦ subst (Contains ys) same (each z (Contains-head z zs))
          | inr rest ↦ go zs (λ x m. each x (Contains-tail z x zs m)) rest
        ]

-- each member of one list with each of another
abbrev pub pairs : {X Y : Type 0} → List X → List Y → List (X × Y)
pairs [] ys = []
pairs (x ∷ xs) ys = map (λ y. (x, y)) ys ++ pairs xs ys

pub pairs_length : {X Y : Type 0} (xs : List X) (ys : List Y) → length (pairs xs ys) ≡ length xs * length ys
pairs_length [] ys = omega arith
pairs_length {X} {Y} (x ∷ xs) ys =
    let f : Y → X × Y = λ y. (x, y) in
    let whole : length (map f ys ++ pairs xs ys) ≡ length (map f ys) + length (pairs xs ys) = length-append (map f ys) (pairs xs ys) in
    let first : length (map f ys) ≡ length ys = length-map f ys in
    let rest : length (pairs xs ys) ≡ length xs * length ys = pairs_length xs ys in
    omega (arith, whole, first, rest)

pub has_pair : {X Y : Type 0} (xs : List X) (ys : List Y) (x : X) (y : Y) → Contains xs x → Contains ys y → Contains (pairs xs ys) (x, y)
has_pair [] ys x y h k = absurd (let l = h.1 in omega (arith, l))
has_pair {X} {Y} (z ∷ xs) ys x y h k = elim (Contains-cases z x xs h) [
  | inl same ↦ subst (λ (w : X). Contains (pairs (z ∷ xs) ys) (w, y)) same (Contains-append_left (map (λ (v : Y). (z, v)) ys) (pairs xs ys) (z, y) (Contains-map (λ (v : Y). (z, v)) ys y k))
  | inr rest ↦ Contains-append_right (map (λ (v : Y). (z, v)) ys) (pairs xs ys) (x, y) (has_pair xs ys x y rest k)
]

-- a sum of numbers that are bounded
pub sum_bound : {X : Type 0} (w : X → ℕ) (most : ℕ) (xs : List X) → ((x : X) → Contains xs x → w x ≤ most) → sum_by w xs ≤ most * length xs
sum_bound w most [] each = omega arith
sum_bound w most (x ∷ xs) each =
    let whole : sum_by w (x ∷ xs) ≡ w x + sum_by w xs = sum_by-cons w x xs in
    let rest : sum_by w xs ≤ most * length xs = sum_bound w most xs (λ y k. each y (Contains-tail x y xs k)) in
    let first : w x ≤ most = each x (Contains-head x xs) in
    omega (arith, whole, rest, first)

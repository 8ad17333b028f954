-- A list without repeats weighs no more than one that has each of its members.
use Rattle.std.proofs.Common.{◌≡◌, ◌≢◌, ℕ, zero, suc, ◌+◌, ◌≤◌, List, [], ◌∷◌, refl, sym, ◌∙◌, ap, subst, arith, inl, inr, Some, slice_get}
use Rattle.std.specs.Prelude.{◌⊎◌}
use Rattle.std.specs.List.{Contains, AllPairs, sum_by}
use Rattle.std.proofs.lemmas.List.Sums.{sum_by-cons}
use Rattle.std.proofs.lemmas.Option.{slice_get_within}
use Rattle.circuit_theory.specs.Depth.{without}
use Rattle.circuit_theory.proofs.Lists.{Contains-head, Contains-tail, at_of, of_at}

pub AllPairs-head : {X : Type 0} (R : X → X → Type 0) (x : X) (xs : List X) → AllPairs R (x ∷ xs) → (y : X) → Contains xs y → R x y
AllPairs-head R x xs h y k = subst (R x) k.2 (h 0 (suc k.0) y (omega arith) (omega (arith, k.1)))

pub AllPairs-tail : {X : Type 0} (R : X → X → Type 0) (x : X) (xs : List X) → AllPairs R (x ∷ xs) → AllPairs R xs
AllPairs-tail R x xs h i j d l k = h (suc i) (suc j) d (omega arith) (omega arith)

pub sum_without : {X : Type 0} (w : X → ℕ) (ys : List X) (i : ℕ) (y : X) → slice_get ys i ≡ Some y → sum_by w ys ≡ w y + sum_by w (without ys i)
sum_without w [] i y e = absurd (let k = slice_get_within [] i y e in omega arith)
sum_without w (z ∷ ys) zero y e = sum_by-cons w z ys ∙ ap (λ x. w x + sum_by w ys) (unwrap e)
  where
    unwrap : Some z ≡ Some y → z ≡ y
    unwrap q = cc
sum_without w (z ∷ ys) (suc i) y e =
    let ih : sum_by w ys ≡ w y + sum_by w (without ys i) = sum_without w ys i y e in
    let l : sum_by w (z ∷ ys) ≡ w z + sum_by w ys = sum_by-cons w z ys in
    let r : sum_by w (z ∷ without ys i) ≡ w z + sum_by w (without ys i) = sum_by-cons w z (without ys i) in
    omega arith

pub contains_without : {X : Type 0} (ys : List X) (i j : ℕ) (y : X) → slice_get ys j ≡ Some y → j ≢ i → Contains (without ys i) y
contains_without [] i j y e n = absurd (let k = slice_get_within [] j y e in omega arith)
contains_without (z ∷ ys) zero zero y e n = absurd (n refl)
contains_without (z ∷ ys) zero (suc j) y e n = of_at ys j y e
contains_without (z ∷ ys) (suc i) zero y e n = subst (Contains (z ∷ without ys i)) (unwrap e) (Contains-head z (without ys i))
  where
    unwrap : Some z ≡ Some y → z ≡ y
    unwrap q = cc
contains_without (z ∷ ys) (suc i) (suc j) y e n = Contains-tail z y (without ys i) (contains_without ys i j y e (λ q. n (ap suc q)))

pub same_or_not : (i j : ℕ) → (i ≡ j) ⊎ (i ≢ j)
same_or_not zero zero = inl refl
same_or_not zero (suc j) = inr (λ e. omega arith)
same_or_not (suc i) zero = inr (λ e. omega arith)
same_or_not (suc i) (suc j) = elim (same_or_not i j) [ inl e ↦ inl (ap suc e) | inr n ↦ inr (λ e. n (omega arith)) ]

-- `Same` tells which elements count once
module _ {X : Type 0} (w : X → ℕ) (Same : X → X → Type 0) (meet : (x y z : X) → Same x z → Same y z → Same x y) where
  pub sum_within : (xs ys : List X) → AllPairs (λ x y. Same x y → ⊥) xs → ((x : X) → Contains xs x → (y : X) × Contains ys y × Same x y × (w x ≡ w y)) → sum_by w xs ≤ sum_by w ys
  sum_within [] ys distinct found = omega arith
  sum_within (x ∷ xs) ys distinct found =
      let mine = found x (Contains-head x xs) in
      let at = at_of ys mine.0 mine.1 in
      let rest : sum_by w xs ≤ sum_by w (without ys at.0) = sum_within xs (without ys at.0) (AllPairs-tail (λ a b. Same a b → ⊥) x xs distinct) (others mine at) in
      let l : sum_by w (x ∷ xs) ≡ w x + sum_by w xs = sum_by-cons w x xs in
      let r : sum_by w ys ≡ w mine.0 + sum_by w (without ys at.0) = sum_without w ys at.0 mine.0 at.1 in
      omega (arith, mine.3)
    where
      others : (mine : (y : X) × Contains ys y × Same x y × (w x ≡ w y)) (at : (i : ℕ) × (slice_get ys i ≡ Some mine.0)) → (z : X) → Contains xs z →
          (y : X) × Contains (without ys at.0) y × Same z y × (w z ≡ w y)
      others mine at z k =
          let theirs = found z (Contains-tail x z xs k) in
          let there = at_of ys theirs.0 theirs.1 in
          (theirs.0, contains_without ys at.0 there.0 theirs.0 there.1 (λ e. apart theirs there e), theirs.2, theirs.3)
        where
          unwrap : {a b : X} → Some a ≡ Some b → a ≡ b
          unwrap q = cc

          apart : (theirs : (y : X) × Contains ys y × Same z y × (w z ≡ w y)) (there : (j : ℕ) × (slice_get ys j ≡ Some theirs.0)) → there.0 ≡ at.0 → ⊥
          apart theirs there e =
              let one : theirs.0 ≡ mine.0 = unwrap (sym there.1 ∙ (ap (slice_get ys) e ∙ at.1)) in
              AllPairs-head (λ a b. Same a b → ⊥) x xs distinct z k (meet x z mine.0 mine.2 (subst (Same z) one theirs.2))

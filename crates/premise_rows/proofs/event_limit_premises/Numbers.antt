-- What stands for each of the seventeen numbers.
use Rattle.std.proofs.Common.{◌≡◌, ◌∙◌, ℕ, zero, suc, ◌+◌, ◌<◌, List, [], ◌∷◌, ◌++◌, map, get_or, slice_get, Some, sym, ap, subst, arith}
use Rattle.std.specs.List.{AllPairs, Contains}
use Rattle.std.proofs.lemmas.Option.{get_or_from_slice_get, same_Some, slice_get_within}
use Rattle.circuit_theory.proofs.Lists.{at_of, of_at}
use Rattle.base_tables.specs.Table.{AreDistinct}
use Rattle.premise_rows.specs.event_limit_premises.Chosen.{letter, numbers_from, seventeen}

at_number : {X : Type 0} (f : ℕ → X) (ys : List X) (count k i m : ℕ) → i < count → m ≡ k + i → slice_get (map f (numbers_from k count) ++ ys) i ≡ Some (f m)
at_number f ys zero k i m l e = absurd (omega (arith, l))
at_number f ys (suc count) k zero m l e = ap (λ n. Some (f n)) (let same : k ≡ m = omega (arith, e) in same)
at_number f ys (suc count) k (suc i) m l e = at_number f ys count (suc k) i m (omega (arith, l)) (omega (arith, e))

pub at : {X : Type 0} (f : ℕ → X) (ys : List X) (i : ℕ) → i < 17 → slice_get (map f seventeen ++ ys) i ≡ Some (f i)
at f ys i l = at_number f ys 17 0 i i l (omega arith)

pub is_at : {X : Type 0} (f : ℕ → X) (i : ℕ) (x : X) → slice_get (map f seventeen) i ≡ Some x → (i < 17) × (f i ≡ x)
is_at f i x h = let l : i < 17 = slice_get_within (map f seventeen) i x h in (l, same_Some (f i) x (sym (at f [] i l) ∙ h))

pub in_seventeen : (k : ℕ) → k < 17 → Contains seventeen k
in_seventeen k l = of_at seventeen k k (at (λ i. i) [] k l)

pub of_seventeen : (k : ℕ) → Contains seventeen k → k < 17
of_seventeen k h = let i = at_of seventeen k h in let m = is_at (λ i. i) i.0 k i.1 in subst (λ j. j < 17) m.1 m.0

-- the same of eighteen
pub in_eighteen : (k : ℕ) → k < 18 → Contains (numbers_from 0 18) k
in_eighteen k l = of_at (numbers_from 0 18) k k (at_number (λ i. i) [] 18 0 k k l (omega arith))

pub of_eighteen : (k : ℕ) → Contains (numbers_from 0 18) k → k < 18
of_eighteen k h =
    let i = at_of (numbers_from 0 18) k h in
    let l : i.0 < 18 = slice_get_within (numbers_from 0 18) i.0 k i.1 in
    subst (λ j. j < 18) (same_Some i.0 k (sym (at_number (λ j. j) [] 18 0 i.0 i.0 l (omega arith)) ∙ i.1)) l

-- each number stands at its place, and so do the letters
pub own_place : (i k : ℕ) → slice_get seventeen i ≡ Some k → i ≡ k
own_place i k h = (is_at (λ j. j) i k h).1

pub numbers_distinct : AreDistinct seventeen
numbers_distinct i j k h g = own_place i k h ∙ sym (own_place j k g)

abbrev head_of : List ℕ → ℕ
head_of [] = 0
head_of (x ∷ xs) = x

pub letters_distinct : AreDistinct (map letter seventeen)
letters_distinct i j name h g =
    let same : 97 + i ≡ 97 + j = ap head_of ((is_at letter i name h).1 ∙ sym (is_at letter j name g).1) in
    omega (arith, same)

-- what holds of each two numbers, the lesser first, holds of each two in the list
pub in_order : (R : ℕ → ℕ → Type 0) → ((i j : ℕ) → i < j → j < 17 → R i j) → AllPairs R seventeen
in_order R all i j d l h =
    let j_in : j < 17 = h in
    let i_in : i < 17 = omega (arith, l, j_in) in
    let first : get_or seventeen i d ≡ i = get_or_from_slice_get seventeen i i d (at (λ k. k) [] i i_in) in
    let second : get_or seventeen j d ≡ j = get_or_from_slice_get seventeen j j d (at (λ k. k) [] j j_in) in
    subst (λ m. R m (get_or seventeen j d)) (sym first) (subst (R i) (sym second) (all i j l j_in))

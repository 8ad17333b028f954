-- A latch has one cone: increasing lists with the same members are one.
use Rattle.std.proofs.Common.{◌≡◌, ◌<◌, ◌≤◌, ◌⊎◌, inl, inr, ℕ, List, [], ◌∷◌, Contains, refl, arith}
use Rattle.std.specs.List.{AllPairs}
use Rattle.std.proofs.lemmas.Option.{none-some}
use Rattle.std.proofs.lemmas.List.Kept.{AllPairs-from_increasing}
use Rattle.circuit_theory.proofs.Lists.{Contains-head, Contains-tail, Contains-cases, at_of}
use Rattle.circuit_theory.proofs.Sums.{AllPairs-head, AllPairs-tail}
use Rattle.latch_kinds.specs.unate_enable.Laws.{ConesAreOne}

none_in : (x : ℕ) → Contains [] x → ⊥
none_in x h = let at = at_of [] x h in none-some x at.1

-- the first of increasing numbers is the least
least : (x : ℕ) (xs : List ℕ) → AllPairs (λ a b. a < b) (x ∷ xs) → (y : ℕ) → Contains (x ∷ xs) y → x ≤ y
least x xs order y h = by (Contains-cases x y xs h)
  where
    by : (x ≡ y) ⊎ Contains xs y → x ≤ y
    by (inl e) = omega (arith, e)
    by (inr m) = let more = AllPairs-head (λ a b. a < b) x xs order y m in omega (arith, more)

same_lists : (xs ys : List ℕ) → AllPairs (λ a b. a < b) xs → AllPairs (λ a b. a < b) ys → ((x : ℕ) → Contains xs x → Contains ys x) → ((x : ℕ) → Contains ys x → Contains xs x) → xs ≡ ys
same_lists [] [] p q f g = refl
same_lists [] (y ∷ ys) p q f g = absurd (none_in y (g y (Contains-head y ys)))
same_lists (x ∷ xs) [] p q f g = absurd (none_in x (f x (Contains-head x xs)))
same_lists (x ∷ xs) (y ∷ ys) p q f g =
    let rest = same_lists xs ys (AllPairs-tail (λ a b. a < b) x xs p) (AllPairs-tail (λ a b. a < b) y ys q)
    (λ z h. over z (AllPairs-head (λ a b. a < b) x xs p z h) (f z (Contains-tail x z xs h)))
    (λ z h. back z (AllPairs-head (λ a b. a < b) y ys q z h) (g z (Contains-tail y z ys h))) in
    λ i. first i ∷ rest i
  where
    first : x ≡ y
    first = let a = least x xs p y (g y (Contains-head y ys)) in let b = least y ys q x (f x (Contains-head x xs)) in omega (arith, a, b)

    over : (z : ℕ) → x < z → Contains (y ∷ ys) z → Contains ys z
    over z above h = by (Contains-cases y z ys h)
      where
        by : (y ≡ z) ⊎ Contains ys z → Contains ys z
        by (inl e) = absurd (omega (arith, first, e, above))
        by (inr m) = m

    back : (z : ℕ) → y < z → Contains (x ∷ xs) z → Contains xs z
    back z above h = by (Contains-cases x z xs h)
      where
        by : (x ≡ z) ⊎ Contains xs z → Contains xs z
        by (inl e) = absurd (omega (arith, first, e, above))
        by (inr m) = m

pub one_cone : ConesAreOne
one_cone n j a b left right =
    let inputs = same_lists a.inputs b.inputs (AllPairs-from_increasing a.inputs left.inputs_increasing) (AllPairs-from_increasing b.inputs right.inputs_increasing) (λ i h. (right.inputs i).1 ((left.inputs i).0 h)) (λ i h. (left.inputs i).1 ((right.inputs i).0 h)) in
    let latches = same_lists a.latches b.latches (AllPairs-from_increasing a.latches left.latches_increasing) (AllPairs-from_increasing b.latches right.latches_increasing) (λ k h. (right.latches k).1 ((left.latches k).0 h)) (λ k h. (left.latches k).1 ((right.latches k).0 h)) in
    λ i. record { inputs = inputs i; latches = latches i }

-- What holds of the items of lists, place by place.
use Rattle.std.proofs.Common.{◌≡◌, ℕ, zero, suc, List, [], ◌∷◌, ◌++◌, length, slice_get, Some, inl, inr, ◌⊎◌, refl, sym, ◌∙◌, ap, subst}
use Rattle.std.proofs.lemmas.Option.{same_Some, none-some}

-- what stands in a list with one item more
pub pushed_at : {X : Type 0} (xs : List X) (x : X) (i : ℕ) (y : X) → slice_get (xs ++ x ∷ []) i ≡ Some y → (slice_get xs i ≡ Some y) ⊎ ((i ≡ length xs) × (x ≡ y))
pushed_at [] x zero y h = inr (refl, same_Some x y h)
pushed_at [] x (suc i) y h = absurd (none-some y h)
pushed_at (z ∷ xs) x zero y h = inl h
pushed_at {X} (z ∷ xs) x (suc i) y h = go (pushed_at xs x i y h)
  where
    go : (slice_get xs i ≡ Some y) ⊎ ((i ≡ length xs) × (x ≡ y)) → (slice_get (z ∷ xs) (suc i) ≡ Some y) ⊎ ((suc i ≡ length (z ∷ xs)) × (x ≡ y))
    go (inl l) = inl l
    go (inr r) = inr (ap suc r.0, r.1)

-- what holds at each place so far, and at the next, holds with one item more
pub each_more : {X Y : Type 0} (R : ℕ → X → Y → Type 0) (xs : List X) (ys : List Y) (x : X) (y : Y) → slice_get xs (length ys) ≡ Some x → R (length ys) x y →
    ((k : ℕ) (p : X) (q : Y) → slice_get xs k ≡ Some p → slice_get ys k ≡ Some q → R k p q) →
    (k : ℕ) (p : X) (q : Y) → slice_get xs k ≡ Some p → slice_get (ys ++ y ∷ []) k ≡ Some q → R k p q
each_more {X} {Y} R xs ys x y at right below k p q at_p at_q = go (pushed_at ys y k q at_q)
  where
    go : (slice_get ys k ≡ Some q) ⊎ ((k ≡ length ys) × (y ≡ q)) → R k p q
    go (inl h) = below k p q at_p h
    go (inr h) =
        let same : x ≡ p = same_Some x p (sym at ∙ (ap (slice_get xs) (sym h.0) ∙ at_p)) in
        subst (λ j. R j p q) (sym h.0) (subst (λ (r : Y). R (length ys) p r) h.1 (subst (λ (s : X). R (length ys) s y) same right))

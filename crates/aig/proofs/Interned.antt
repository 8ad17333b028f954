-- What a table of places has after a place was put into it.
use Rattle.std.proofs.Common.{◌≡◌, ◌≢◌, ◌+◌, ◌≤◌, ℕ, List, [], ◌∷◌, ◌++◌, length, length-append, refl, ap, subst, arith, inl, inr}
use Rattle.std.specs.Prelude.{◌⊎◌}
use Rattle.std.specs.List.{Contains}
use Rattle.circuit_theory.proofs.Lists.{Contains-head, Contains-tail, Contains-cases}
use Rattle.circuit_theory.proofs.Sums.{same_or_not}
use Rattle.aig.specs.Adds.{Adds}
use Rattle.aig.proofs.Lists.{adds_none, adds_push}

-- two places are one or not
pub same_place_or_not : (p q : ℕ × ℕ) → (p ≡ q) ⊎ (p ≢ q)
same_place_or_not p q = go (same_or_not p.0 q.0) (same_or_not p.1 q.1)
  where
    go : (p.0 ≡ q.0) ⊎ (p.0 ≢ q.0) → (p.1 ≡ q.1) ⊎ (p.1 ≢ q.1) → (p ≡ q) ⊎ (p ≢ q)
    go (inl e) (inl f) = inl (λ i. (e i, f i))
    go (inr n) other = inr (λ e. n (ap (λ r. r.0) e))
    go (inl e) (inr n) = inr (λ e. n (ap (λ r. r.1) e))

-- a place stands in a list or not
pub there_or_not : (xs : List (ℕ × ℕ)) (p : ℕ × ℕ) → Contains xs p ⊎ (Contains xs p → ⊥)
there_or_not [] p = inr (λ h. omega (arith, h.1))
there_or_not (x ∷ xs) p = go (same_place_or_not x p) (there_or_not xs p)
  where
    go : (x ≡ p) ⊎ (x ≢ p) → Contains xs p ⊎ (Contains xs p → ⊥) → Contains (x ∷ xs) p ⊎ (Contains (x ∷ xs) p → ⊥)
    go (inl e) rest = inl (subst (Contains (x ∷ xs)) e (Contains-head x xs))
    go (inr n) (inl h) = inl (Contains-tail x p xs h)
    go (inr n) (inr none) = inr (λ h. elim (Contains-cases x p xs h) [ inl e ↦ n e | inr k ↦ none k ])

pub interned : (old new : List (ℕ × ℕ)) (p : ℕ × ℕ) → (Contains old p → new ≡ old) → ((Contains old p → ⊥) → new ≡ old ++ p ∷ []) → Adds (λ q. q ≡ p) old new × (length new ≤ length old + 1)
interned old new p known added = go (there_or_not old p)
  where
    go : Contains old p ⊎ (Contains old p → ⊥) → Adds (λ q. q ≡ p) old new × (length new ≤ length old + 1)
    go (inl h) = (adds_none (λ q. q ≡ p) old new (known h), omega (arith, ap length (known h)))
    go (inr n) = (adds_push (λ q. q ≡ p) old new p (added n) refl, omega (arith, ap length (added n), length-append old (p ∷ [])))

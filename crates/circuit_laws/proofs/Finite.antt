-- What can be decided over finite lists, where a statement may be used that isn't impossible: enough for an equation of bits.
use Rattle.std.proofs.Common.{◌≡◌, ℕ, zero, suc, ◌<◌, Bool, true, false, List, [], ◌∷◌, refl, sym, subst, arith, inl, inr}
use Rattle.std.specs.Prelude.{◌⊎◌}
use Rattle.std.specs.List.{Contains}
use Rattle.circuit_theory.proofs.Lists.{Contains-head, Contains-tail, Contains-cases}

abbrev pub Decided : Type 0 → Type 0
Decided A = A ⊎ (A → ⊥)

-- it isn't impossible
abbrev pub Weakly : Type 0 → Type 0
Weakly A = (A → ⊥) → ⊥

pub weakly_decided : {A : Type 0} → Weakly (Decided A)
weakly_decided k = k (inr (λ a. k (inl a)))

pub weakly_each : {X : Type 0} (F : X → Type 0) (xs : List X) → ((x : X) → Contains xs x → Weakly (F x)) → Weakly ((x : X) → Contains xs x → F x)
weakly_each F [] h k = k (λ x c. absurd (omega (arith, c.1)))
weakly_each {X} F (x ∷ xs) h k = h x (Contains-head x xs) (λ here. weakly_each F xs (λ y c. h y (Contains-tail x y xs c)) (λ there. k (λ y c. pick y here there (Contains-cases x y xs c))))
  where
    pick : (y : X) → F x → ((z : X) → Contains xs z → F z) → (x ≡ y) ⊎ Contains xs y → F y
    pick y here there (inl e) = subst F e here
    pick y here there (inr c) = there y c

pub weakly_below : (F : ℕ → Type 0) (n : ℕ) → ((t : ℕ) → t < n → Weakly (F t)) → Weakly ((t : ℕ) → t < n → F t)
weakly_below F zero h k = k (λ t l. absurd (omega arith))
weakly_below F (suc n) h k = h n (omega arith) (λ here. weakly_below F n (λ t l. h t (omega arith)) (λ there. k (λ t l. pick t here there (which t l))))
  where
    which : (t : ℕ) → t < suc n → (n ≡ t) ⊎ (t < n)
    which t l = grind arith

    pick : (t : ℕ) → F n → ((s : ℕ) → s < n → F s) → (n ≡ t) ⊎ (t < n) → F t
    pick t here there (inl e) = subst F e here
    pick t here there (inr l) = there t l

-- two bits that can't be told apart are one
pub bits_same : (x y : Bool) → Weakly (x ≡ y) → x ≡ y
bits_same true true h = refl
bits_same true false h = absurd (h (λ e. no e))
  where
    no : true ≡ false → ⊥
    no e = cc
bits_same false true h = absurd (h (λ e. no e))
  where
    no : false ≡ true → ⊥
    no e = cc
bits_same false false h = refl

-- a list with an element that does, or without one
pub find_or : {X : Type 0} (F : X → Type 0) (xs : List X) → ((x : X) → Contains xs x → Decided (F x)) → ((x : X) × Contains xs x × F x) ⊎ ((x : X) → Contains xs x → F x → ⊥)
find_or F [] h = inr (λ x c f. omega (arith, c.1))
find_or {X} F (x ∷ xs) h = go (h x (Contains-head x xs)) (find_or F xs (λ y c. h y (Contains-tail x y xs c)))
  where
    go : Decided (F x) → ((y : X) × Contains xs y × F y) ⊎ ((y : X) → Contains xs y → F y → ⊥) → ((y : X) × Contains (x ∷ xs) y × F y) ⊎ ((y : X) → Contains (x ∷ xs) y → F y → ⊥)
    go (inl f) later = inl (x, Contains-head x xs, f)
    go (inr absent) (inl r) = inl (r.0, Contains-tail x r.0 xs r.1, r.2)
    go (inr absent) (inr none) = inr (λ y c f. pick y f (Contains-cases x y xs c))
      where
        pick : (y : X) → F y → (x ≡ y) ⊎ Contains xs y → ⊥
        pick y f (inl e) = absent (subst F (sym e) f)
        pick y f (inr c) = none y c f

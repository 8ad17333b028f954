-- Tests over lists.
use Rattle.std.proofs.Common.{◌≡◌, Bool, true, false, List, [], ◌∷◌, refl, sym, ◌∙◌, ap, arith, inl, inr, ◌⊎◌}
use Rattle.std.specs.Prelude.{◌&&◌, ◌||◌, not}
use Rattle.std.specs.List.{Contains, list_any}
use Rattle.circuit_theory.proofs.Lists.{Contains-head, Contains-tail, Contains-cases}

pub no_true_false : true ≡ false → ⊥
no_true_false e = cc

-- an element passes
pub any_is : {X : Type 0} (test : X → Bool) (xs : List X) → list_any test xs ≡ true → (x : X) × Contains xs x × (test x ≡ true)
any_is test [] e = absurd (no_true_false (sym e))
any_is {X} test (y ∷ xs) e = go (test y) refl (λ k. any_is test xs k)
  where
    go : (b : Bool) → test y ≡ b → (list_any test xs ≡ true → (x : X) × Contains xs x × (test x ≡ true)) → (x : X) × Contains (y ∷ xs) x × (test x ≡ true)
    go true q later = (y, Contains-head y xs, q)
    go false q later = let r = later (sym (ap (λ b. b || list_any test xs) q) ∙ e) in (r.0, Contains-tail y r.0 xs r.1, r.2)

pub is_any : {X : Type 0} (test : X → Bool) (xs : List X) (x : X) → Contains xs x → test x ≡ true → list_any test xs ≡ true
is_any test [] x h t = absurd (omega (arith, h.1))
is_any {X} test (y ∷ xs) x h t = go (test y) refl (Contains-cases y x xs h) (λ k. is_any test xs x k t)
  where
    go : (b : Bool) → test y ≡ b → (y ≡ x) ⊎ Contains xs x → (Contains xs x → list_any test xs ≡ true) → list_any test (y ∷ xs) ≡ true
    go true q k later = ap (λ b. b || list_any test xs) q
    go false q (inl s) later = absurd (no_true_false (sym t ∙ (ap test (sym s) ∙ q)))
    go false q (inr k) later = ap (λ b. b || list_any test xs) q ∙ later k

pub and_both : (a b : Bool) → (a && b) ≡ true → (a ≡ true) × (b ≡ true)
and_both true b e = (refl, e)
and_both false b e = absurd (no_true_false (sym e))

pub both_and : (a b : Bool) → a ≡ true → b ≡ true → (a && b) ≡ true
both_and a b p q = ap (λ x. x && b) p ∙ q

pub or_left : (a b : Bool) → a ≡ true → (a || b) ≡ true
or_left a b e = ap (λ x. x || b) e

pub or_right : (a b : Bool) → b ≡ true → (a || b) ≡ true
or_right true b e = refl
or_right false b e = e

pub or_cases : (a b : Bool) → (a || b) ≡ true → (a ≡ true) ⊎ (b ≡ true)
or_cases true b e = inl refl
or_cases false b e = inr e

pub not_true : (b : Bool) → not b ≡ true → b ≡ false
not_true true e = absurd (no_true_false (sym e))
not_true false e = refl

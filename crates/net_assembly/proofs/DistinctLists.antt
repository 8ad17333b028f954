-- Lists in which no entry stands twice.
use Rattle.std.proofs.Common.{◌≡◌, zero, suc, Bool, true, false, cond, List, [], ◌∷◌, ◌++◌, map, refl, sym, ◌∙◌, ap, subst, arith, inl, inr}
use Rattle.std.specs.Prelude.{◌⊎◌}
use Rattle.std.specs.List.{Contains, filter}
use Rattle.std.proofs.lemmas.List.Elements.{Contains-append_cases}
use Rattle.std.proofs.lemmas.Option.{none-some, same_Some}
use Rattle.circuit_theory.proofs.Lists.{Contains-head, Contains-tail, Contains-cases, Contains-filter, at_of, of_at}
use Rattle.circuit_theory.proofs.Numbers.{slice_get-map}
use Rattle.base_tables.specs.Table.{AreDistinct}

pub distinct_nil : {X : Type 0} → AreDistinct {X = X} []
distinct_nil i j x hi hj = absurd (none-some x hi)

pub distinct_cons : {X : Type 0} (x : X) (xs : List X) → AreDistinct xs → (Contains xs x → ⊥) → AreDistinct (x ∷ xs)
distinct_cons x xs rest new zero zero y hi hj = refl
distinct_cons x xs rest new zero (suc j) y hi hj = absurd (new (subst (Contains xs) (sym (same_Some x y hi)) (of_at xs j y hj)))
distinct_cons x xs rest new (suc i) zero y hi hj = absurd (new (subst (Contains xs) (sym (same_Some x y hj)) (of_at xs i y hi)))
distinct_cons x xs rest new (suc i) (suc j) y hi hj = ap suc (rest i j y hi hj)

pub distinct_tail : {X : Type 0} (x : X) (xs : List X) → AreDistinct (x ∷ xs) → AreDistinct xs
distinct_tail x xs all i j y hi hj = let e : suc i ≡ suc j = all (suc i) (suc j) y hi hj in omega (arith, e)

pub distinct_head : {X : Type 0} (x : X) (xs : List X) → AreDistinct (x ∷ xs) → Contains xs x → ⊥
distinct_head x xs all h = let at = at_of xs x h in let e : zero ≡ suc at.0 = all zero (suc at.0) x refl at.1 in omega (arith, e)

-- lists that share no entry
pub distinct_append : {X : Type 0} (xs ys : List X) → AreDistinct xs → AreDistinct ys → ((x : X) → Contains xs x → Contains ys x → ⊥) → AreDistinct (xs ++ ys)
distinct_append [] ys first second apart = second
distinct_append (x ∷ xs) ys first second apart =
    distinct_cons x (xs ++ ys) (distinct_append xs ys (distinct_tail x xs first) second (λ y h k. apart y (Contains-tail x y xs h) k)) (λ h. by (Contains-append_cases xs ys x h))
  where
    by : Contains xs x ⊎ Contains ys x → ⊥
    by (inl h) = distinct_head x xs first h
    by (inr h) = apart x (Contains-head x xs) h

pub distinct_filter : {X : Type 0} (test : X → Bool) (xs : List X) → AreDistinct xs → AreDistinct (filter test xs)
distinct_filter test [] all = distinct_nil
distinct_filter test (x ∷ xs) all = by (test x) (distinct_filter test xs (distinct_tail x xs all))
  where
    by : (b : Bool) → AreDistinct (filter test xs) → AreDistinct (cond b (x ∷ filter test xs) (filter test xs))
    by true rest = distinct_cons x (filter test xs) rest (λ h. distinct_head x xs all (Contains-filter test xs x h))
    by false rest = rest

-- what has distinct names is distinct
pub distinct_named : {X Y : Type 0} (f : X → Y) (xs : List X) → AreDistinct (map f xs) → AreDistinct xs
distinct_named f xs all i j x hi hj = all i j (f x) (slice_get-map f xs i x hi) (slice_get-map f xs j x hj)

-- what passes stands among what is kept
pub Contains-kept : {X : Type 0} (test : X → Bool) (xs : List X) (x : X) → Contains xs x → test x ≡ true → Contains (filter test xs) x
Contains-kept {X} test [] x h passes = absurd (let at = at_of [] x h in none-some x at.1)
Contains-kept {X} test (y ∷ xs) x h passes = pick (Contains-cases y x xs h) (λ k. Contains-kept test xs x k passes)
  where
    later : (b : Bool) → Contains (filter test xs) x → Contains (cond b (y ∷ filter test xs) (filter test xs)) x
    later true k = Contains-tail y x (filter test xs) k
    later false k = k

    pick : (y ≡ x) ⊎ Contains xs x → (Contains xs x → Contains (filter test xs) x) → Contains (cond (test y) (y ∷ filter test xs) (filter test xs)) x
    pick (inl same) rest = subst (λ (b : Bool). Contains (cond b (y ∷ filter test xs) (filter test xs)) x) (sym (ap test same ∙ passes)) (subst (Contains (y ∷ filter test xs)) same (Contains-head y (filter test xs)))
    pick (inr k) rest = later (test y) (rest k)

-- Byte order as the comparison gives it.
use Rattle.std.proofs.Common.{◌≡◌, ℕ, ◌<◌, true, List, [], ◌∷◌, refl, sym, ◌∙◌, ap, arith, inl, inr}
use Rattle.std.specs.Prelude.{◌⊎◌}
use Rattle.std.specs.Ordering.{nat_cmp, ordering_then, is_lt}
use Rattle.std.specs.declared.cmp.Ordering.{Ordering}
use Rattle.std.specs.declared.cmp.Ordering.TheVariants.{Less, Equal, Greater}
use Rattle.std.specs.Cmp.{nat_cmp_is}
use Rattle.std.specs.Cmp.Lexicographic.{slice_cmp}
use Rattle.std.proofs.lemmas.Bool.{cases_order}
use Rattle.circuit_theory.specs.Names.{ListBefore}

pub before_cmp : (xs ys : List ℕ) → ListBefore xs ys → slice_cmp nat_cmp xs ys ≡ Less
before_cmp [] [] h = absurd h
before_cmp [] (y ∷ ys) h = refl
before_cmp (x ∷ xs) [] h = absurd h
before_cmp (x ∷ xs) (y ∷ ys) (inl l) = ap (λ (o : Ordering). ordering_then o (slice_cmp nat_cmp xs ys)) (sym (nat_cmp_is x y Less l))
before_cmp (x ∷ xs) (y ∷ ys) (inr h) = ap (λ (o : Ordering). ordering_then o (slice_cmp nat_cmp xs ys)) (sym (nat_cmp_is x y Equal h.0)) ∙ before_cmp xs ys h.1

pub cmp_before : (xs ys : List ℕ) → slice_cmp nat_cmp xs ys ≡ Less → ListBefore xs ys
cmp_before [] [] h = absurd (cc)
cmp_before [] (y ∷ ys) h = tt
cmp_before (x ∷ xs) [] h = absurd (cc)
cmp_before (x ∷ xs) (y ∷ ys) h = by (cases_order x y) (λ k. cmp_before xs ys k)
  where
    by : (x ≡ y) ⊎ ((x < y) ⊎ (y < x)) → (slice_cmp nat_cmp xs ys ≡ Less → ListBefore xs ys) → ListBefore (x ∷ xs) (y ∷ ys)
    by (inl e) rest = inr (e, rest (ap (λ (o : Ordering). ordering_then o (slice_cmp nat_cmp xs ys)) (nat_cmp_is x y Equal e) ∙ h))
    by (inr (inl l)) rest = inl l
    by (inr (inr l)) rest = absurd (differ (ap (λ (o : Ordering). ordering_then o (slice_cmp nat_cmp xs ys)) (nat_cmp_is x y Greater l) ∙ h))
      where
        differ : Greater ≡ Less → ⊥
        differ q = cc

pub before_self : (xs : List ℕ) → ListBefore xs xs → ⊥
before_self [] h = h
before_self (x ∷ xs) (inl l) = omega (arith, l)
before_self (x ∷ xs) (inr h) = before_self xs h.1

pub before_after : (xs ys zs : List ℕ) → ListBefore xs ys → ListBefore ys zs → ListBefore xs zs
before_after [] [] zs h k = absurd h
before_after [] (y ∷ ys) [] h k = absurd k
before_after [] (y ∷ ys) (z ∷ zs) h k = tt
before_after (x ∷ xs) [] zs h k = absurd h
before_after (x ∷ xs) (y ∷ ys) [] h k = absurd k
before_after (x ∷ xs) (y ∷ ys) (z ∷ zs) (inl l) (inl m) = inl (omega (arith, l, m))
before_after (x ∷ xs) (y ∷ ys) (z ∷ zs) (inl l) (inr m) = inl (omega (arith, l, m.0))
before_after (x ∷ xs) (y ∷ ys) (z ∷ zs) (inr l) (inl m) = inl (omega (arith, l.0, m))
before_after (x ∷ xs) (y ∷ ys) (z ∷ zs) (inr l) (inr m) = inr (l.0 ∙ m.0, before_after xs ys zs l.1 m.1)

pub less_is : (o : Ordering) → is_lt o ≡ true → o ≡ Less
less_is Less e = refl
less_is Equal e = absurd (cc)
less_is Greater e = absurd (cc)

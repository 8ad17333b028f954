-- The order of paths as a comparison gives it.
use Rattle.std.proofs.Common.{◌≡◌, ◌<◌, ◌∙◌, ℕ, List, [], ◌∷◌, Ordering, refl, sym, ap, arith, inl, inr}
use Rattle.std.specs.Prelude.{◌⊎◌}
use Rattle.std.specs.Ordering.{nat_cmp, ordering_then}
use Rattle.std.specs.Cmp.Lexicographic.{slice_cmp}
use Rattle.std.specs.declared.cmp.Ordering.TheVariants.{Less, Equal, Greater}
use Rattle.std.proofs.lemmas.Bool.{cases_order}
use Rattle.std.proofs.lemmas.Bool.Decides.{nat_tests}
use Rattle.circuit_theory.specs.Names.{ListBefore}

compare_equal : (x y : ℕ) → x ≡ y → nat_cmp x y ≡ Equal
compare_equal x y e = grind (arith, nat_tests)

compare_less : (x y : ℕ) → x < y → nat_cmp x y ≡ Less
compare_less x y l = grind (arith, nat_tests)

compare_greater : (x y : ℕ) → y < x → nat_cmp x y ≡ Greater
compare_greater x y l = grind (arith, nat_tests)

-- a path that is greater comes after
pub greater_after : (xs ys : List ℕ) → slice_cmp nat_cmp xs ys ≡ Greater → ListBefore ys xs
greater_after [] [] h = absurd (cc)
greater_after [] (y ∷ ys) h = absurd (cc)
greater_after (x ∷ xs) [] h = tt
greater_after (x ∷ xs) (y ∷ ys) h = go (cases_order x y) (greater_after xs ys)
  where
    go : (x ≡ y) ⊎ ((x < y) ⊎ (y < x)) → (slice_cmp nat_cmp xs ys ≡ Greater → ListBefore ys xs) → (y < x) ⊎ ((y ≡ x) × ListBefore ys xs)
    go (inl e) later = inr (sym e, later (sym (ap (λ (o : Ordering). ordering_then o (slice_cmp nat_cmp xs ys)) (compare_equal x y e)) ∙ h))
    go (inr (inl l)) later = absurd (let g : Less ≡ Greater = sym (ap (λ (o : Ordering). ordering_then o (slice_cmp nat_cmp xs ys)) (compare_less x y l)) ∙ h in cc)
    go (inr (inr l)) later = inl l

-- and one that is neither less nor greater is the same
pub equal_same : (xs ys : List ℕ) → slice_cmp nat_cmp xs ys ≡ Equal → xs ≡ ys
equal_same [] [] h = refl
equal_same [] (y ∷ ys) h = absurd (cc)
equal_same (x ∷ xs) [] h = absurd (cc)
equal_same (x ∷ xs) (y ∷ ys) h = go (cases_order x y) (equal_same xs ys)
  where
    go : (x ≡ y) ⊎ ((x < y) ⊎ (y < x)) → (slice_cmp nat_cmp xs ys ≡ Equal → xs ≡ ys) → x ∷ xs ≡ y ∷ ys
    go (inl e) later = ap (λ (l : List ℕ). x ∷ l) (later (sym (ap (λ (o : Ordering). ordering_then o (slice_cmp nat_cmp xs ys)) (compare_equal x y e)) ∙ h)) ∙ ap (λ (a : ℕ). a ∷ ys) e
    go (inr (inl l)) later = absurd (let g : Less ≡ Equal = sym (ap (λ (o : Ordering). ordering_then o (slice_cmp nat_cmp xs ys)) (compare_less x y l)) ∙ h in cc)
    go (inr (inr l)) later = absurd (let g : Greater ≡ Equal = sym (ap (λ (o : Ordering). ordering_then o (slice_cmp nat_cmp xs ys)) (compare_greater x y l)) ∙ h in cc)

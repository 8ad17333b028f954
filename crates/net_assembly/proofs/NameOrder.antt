-- The order of names.
use Rattle.std.proofs.Common.{◌≡◌, ◌<◌, ◌+◌, ◌≤◌, ◌∙◌, ℕ, List, [], ◌∷◌, length, slice_get, slice_index_or, unwrap_or, Option, Some, Ordering, refl, sym, ap, subst, arith, inl, inr}
use Rattle.std.specs.Prelude.{◌⊎◌}
use Rattle.std.specs.Ordering.{nat_cmp, ordering_then}
use Rattle.std.specs.Cmp.Lexicographic.{slice_cmp}
use Rattle.std.specs.declared.cmp.Ordering.TheVariants.{Less, Equal, Greater}
use Rattle.std.proofs.lemmas.Bool.{cases_order, cases_lt}
use Rattle.std.proofs.lemmas.Bool.Decides.{nat_tests}
use Rattle.circuit_theory.specs.Names.{ListBefore}

pub before_trans : (xs ys zs : List ℕ) → ListBefore xs ys → ListBefore ys zs → ListBefore xs zs
before_trans xs ys [] h k = absurd (at ys k)
  where
    at : (ws : List ℕ) → ListBefore ws [] → ⊥
    at [] e = e
    at (w ∷ ws) e = e
before_trans [] ys (z ∷ zs) h k = tt
before_trans (x ∷ xs) [] (z ∷ zs) h k = absurd h
before_trans (x ∷ xs) (y ∷ ys) (z ∷ zs) h k = go h k (before_trans xs ys zs)
  where
    go : (x < y) ⊎ ((x ≡ y) × ListBefore xs ys) → (y < z) ⊎ ((y ≡ z) × ListBefore ys zs) → (ListBefore xs ys → ListBefore ys zs → ListBefore xs zs) → (x < z) ⊎ ((x ≡ z) × ListBefore xs zs)
    go (inl a) (inl b) later = inl (omega (arith, a, b))
    go (inl a) (inr b) later = inl (omega (arith, a, b.0))
    go (inr a) (inl b) later = inl (omega (arith, a.0, b))
    go (inr a) (inr b) later = inr (a.0 ∙ b.0, later a.1 b.1)

compare_equal : (x y : ℕ) → x ≡ y → nat_cmp x y ≡ Equal
compare_equal x y e = grind (arith, nat_tests)

compare_less : (x y : ℕ) → x < y → nat_cmp x y ≡ Less
compare_less x y l = grind (arith, nat_tests)

compare_greater : (x y : ℕ) → y < x → nat_cmp x y ≡ Greater
compare_greater x y l = grind (arith, nat_tests)

pub less_before : (xs ys : List ℕ) → slice_cmp nat_cmp xs ys ≡ Less → ListBefore xs ys
less_before [] [] h = absurd (cc)
less_before [] (y ∷ ys) h = tt
less_before (x ∷ xs) [] h = absurd (cc)
less_before (x ∷ xs) (y ∷ ys) h = go (cases_order x y) (less_before xs ys)
  where
    go : (x ≡ y) ⊎ ((x < y) ⊎ (y < x)) → (slice_cmp nat_cmp xs ys ≡ Less → ListBefore xs ys) → (x < y) ⊎ ((x ≡ y) × ListBefore xs ys)
    go (inl e) later = inr (e, later (sym (ap (λ (o : Ordering). ordering_then o (slice_cmp nat_cmp xs ys)) (compare_equal x y e)) ∙ h))
    go (inr (inl l)) later = inl l
    go (inr (inr l)) later = absurd (let g : Greater ≡ Less = sym (ap (λ (o : Ordering). ordering_then o (slice_cmp nat_cmp xs ys)) (compare_greater x y l)) ∙ h in cc)

pub before_less : (xs ys : List ℕ) → ListBefore xs ys → slice_cmp nat_cmp xs ys ≡ Less
before_less [] [] h = absurd h
before_less (x ∷ xs) [] h = absurd h
before_less [] (y ∷ ys) h = refl
before_less (x ∷ xs) (y ∷ ys) (inl l) = ap (λ (o : Ordering). ordering_then o (slice_cmp nat_cmp xs ys)) (compare_less x y l)
before_less (x ∷ xs) (y ∷ ys) (inr e) = ap (λ (o : Ordering). ordering_then o (slice_cmp nat_cmp xs ys)) (compare_equal x y e.0) ∙ before_less xs ys e.1

-- a thing that isn't before the least
pub least_keeps : (name : ℕ → List ℕ) (count least : ℕ) → ((k : ℕ) → k < count → ListBefore (name k) (name least) → ⊥) → (ListBefore (name count) (name least) → ⊥) →
    (k : ℕ) → k < count + 1 → ListBefore (name k) (name least) → ⊥
least_keeps name count least old new k l = pick (cases_lt k count)
  where
    pick : (k < count) ⊎ (count ≤ k) → ListBefore (name k) (name least) → ⊥
    pick (inl before) = old k before
    pick (inr behind) = let e : count ≡ k = omega (arith, l, behind) in subst (λ i. ListBefore (name i) (name least) → ⊥) e new

-- nothing comes before itself
before_not_same : (xs : List ℕ) → ListBefore xs xs → ⊥
before_not_same [] h = h
before_not_same (x ∷ xs) (inl l) = omega (arith, l)
before_not_same (x ∷ xs) (inr e) = before_not_same xs e.1

-- a thing that is before the least takes its place
pub least_takes : (name : ℕ → List ℕ) (count least : ℕ) → ((k : ℕ) → k < count → ListBefore (name k) (name least) → ⊥) → ListBefore (name count) (name least) →
    (k : ℕ) → k < count + 1 → ListBefore (name k) (name count) → ⊥
least_takes name count least old new k l = pick (cases_lt k count)
  where
    pick : (k < count) ⊎ (count ≤ k) → ListBefore (name k) (name count) → ⊥
    pick (inl before) h = old k before (before_trans (name k) (name count) (name least) h new)
    pick (inr behind) h = let e : k ≡ count = omega (arith, l, behind) in before_not_same (name count) (subst (λ i. ListBefore (name i) (name count)) e h)

-- the name in the code is the one with the number
pub name_is : (names : List (List ℕ)) (n : ℕ) (name : List ℕ) → slice_get names n ≡ Some name → unwrap_or (slice_get names n) [] ≡ name
name_is names n name h = ap (λ (o : Option (List ℕ)). unwrap_or o []) h

-- a step of the search for the least name
module _ (names : List (List ℕ)) (numbers : List ℕ) (place least : ℕ) (first second : List ℕ) (within : least < length numbers) (here : place < length numbers)
    (old : (k : ℕ) → k < place → ListBefore (unwrap_or (slice_get names (slice_index_or numbers k 0)) []) (unwrap_or (slice_get names (slice_index_or numbers least 0)) []) → ⊥)
    (at : slice_get names (slice_index_or numbers place 0) ≡ Some first) (best : slice_get names (slice_index_or numbers least 0) ≡ Some second) where
  abbrev name : ℕ → List ℕ
  name k = unwrap_or (slice_get names (slice_index_or numbers k 0)) []

  abbrev pub LeastSoFar : ℕ → ℕ → Type 0
  LeastSoFar count found = (found < length numbers) × ((k : ℕ) → k < count → ListBefore (name k) (name found) → ⊥)

  pub least_moves : ListBefore first second → (after : ℕ) → after ≡ place → LeastSoFar (place + 1) after
  least_moves h after e =
      let f : name place ≡ first = name_is names (slice_index_or numbers place 0) first at in
      let s : name least ≡ second = name_is names (slice_index_or numbers least 0) second best in
      subst (LeastSoFar (place + 1)) (sym e) (here, least_takes name place least old (subst (λ n. ListBefore n (name least)) (sym f) (subst (λ n. ListBefore first n) (sym s) h)))

  pub least_stays : (ListBefore first second → ⊥) → (after : ℕ) → after ≡ least → LeastSoFar (place + 1) after
  least_stays h after e =
      let f : name place ≡ first = name_is names (slice_index_or numbers place 0) first at in
      let s : name least ≡ second = name_is names (slice_index_or numbers least 0) second best in
      subst (LeastSoFar (place + 1)) (sym e) (within, least_keeps name place least old (λ k. h (subst (λ n. ListBefore first n) s (subst (λ n. ListBefore n (name least)) f k))))

-- Between the keys of an index set and the list that a table is seen as.
use Rattle.std.proofs.Common.{◌≡◌, ◌+◌, ◌<◌, ℕ, Bool, true, false, ◌||◌, List, [], ◌∷◌, ◌++◌, map, slice_get, Some, Contains, refl, sym, ap, subst, ◌∙◌, true≢false, arith, take, zero, suc}
use Rattle.std.specs.Str.{bytes_eq}
use Rattle.std.proofs.lemmas.List.{take_more}
use Rattle.std.proofs.lemmas.List.Folds.{list_any_at}
use Rattle.std.proofs.lemmas.Option.{slice_get_within, get_or_from_slice_get, none-some, same_Some}
use Rattle.std.proofs.lemmas.Slice.Eq.{bytes_eq-Decides}
use Rattle.base_tables.specs.Table.{is_among, AreDistinct}

-- a name of the list is among the names
pub is_among-Contains : (names : List (List ℕ)) (name : List ℕ) → Contains names name → is_among names name ≡ true
is_among-Contains names name (k, within, here) =
    list_any_at (λ n. bytes_eq name n) names k name within (subst (λ n. bytes_eq name n ≡ true) (sym here) ((bytes_eq-Decides name name).1 refl))

-- no name of the list is refused
pub Contains_not-is_among : (names : List (List ℕ)) (name : List ℕ) → is_among names name ≡ false → Contains names name → ⊥
Contains_not-is_among names name none there = true≢false (sym (is_among-Contains names name there) ∙ none)

-- the key behind what stands at a place
pub key_at : {K X : Type 0} (f : K → X) (ks : List K) (i : ℕ) (x : X) → slice_get (map f ks) i ≡ Some x → (k : K) × (slice_get ks i ≡ Some k) × (f k ≡ x)
key_at f [] i x h = absurd (none-some x h)
key_at f (k ∷ ks) zero x h = (k, refl, same_Some (f k) x h)
key_at f (k ∷ ks) (suc i) x h = key_at f ks i x h

-- a name that is among the names stands at a place
pub is_among-at : (names : List (List ℕ)) (name : List ℕ) → is_among names name ≡ true → (i : ℕ) × (slice_get names i ≡ Some name)
is_among-at [] name h = absurd (true≢false (sym h))
is_among-at (x ∷ xs) name h = by (bytes_eq name x) refl (λ k. is_among-at xs name k)
  where
    by : (b : Bool) → bytes_eq name x ≡ b → (is_among xs name ≡ true → (i : ℕ) × (slice_get xs i ≡ Some name)) → (i : ℕ) × (slice_get (x ∷ xs) i ≡ Some name)
    by true e later = (0, ap Some (sym ((bytes_eq-Decides name x).0 e)))
    by false e later = let rest = later (sym (ap (λ b. b || is_among xs name) e) ∙ h) in (suc rest.0, rest.1)

-- what stands among the first n
pub slice_get-take : {X : Type 0} (n : ℕ) (xs : List X) (i : ℕ) (x : X) → slice_get (take n xs) i ≡ Some x → (i < n) × (slice_get xs i ≡ Some x)
slice_get-take zero xs i x h = absurd (none-some x h)
slice_get-take (suc n) [] i x h = absurd (none-some x h)
slice_get-take (suc n) (y ∷ xs) zero x h = (omega arith, h)
slice_get-take (suc n) (y ∷ xs) (suc i) x h = let rest = slice_get-take n xs i x h in (omega (arith, rest.0), rest.1)

-- none of the first i names is the name at i, where no name stands twice
pub not_before : (names : List (List ℕ)) (i : ℕ) (name : List ℕ) → AreDistinct names → slice_get names i ≡ Some name → is_among (take i names) name ≡ false
not_before names i name distinct here = by (is_among (take i names) name) refl
  where
    by : (b : Bool) → is_among (take i names) name ≡ b → is_among (take i names) name ≡ false
    by true e =
        let at = is_among-at (take i names) name e in
        let before = slice_get-take i names at.0 name at.1 in
        let same : at.0 ≡ i = distinct at.0 i name before.1 here in
        absurd (omega (arith, before.0, same))
    by false e = e

-- the first i and the one at i
pub take-push : {X : Type 0} (xs : List X) (i : ℕ) (x : X) → slice_get xs i ≡ Some x → take i xs ++ x ∷ [] ≡ take (i + 1) xs
take-push xs i x here = ap (λ y. take i xs ++ y ∷ []) (sym (get_or_from_slice_get xs i x x here)) ∙ sym (take_more xs i x (slice_get_within xs i x here))

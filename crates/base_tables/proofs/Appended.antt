-- Names behind others.
use Rattle.std.proofs.Common.{◌≡◌, ◌+◌, ◌⊎◌, ℕ, Bool, true, false, ◌||◌, List, [], ◌∷◌, ◌++◌, length, slice_get, Some, refl, sym, ap, ◌∙◌, true≢false, arith, inl, inr, zero, suc}
use Rattle.std.specs.Str.{bytes_eq}
use Rattle.std.proofs.lemmas.Option.{none-some, same_Some}
use Rattle.std.proofs.lemmas.Slice.Eq.{bytes_eq-Decides}
use Rattle.base_tables.specs.Table.{is_among, AreDistinct}

-- what stands among the first stands there still
pub at-left : {X : Type 0} (xs ys : List X) (i : ℕ) (x : X) → slice_get xs i ≡ Some x → slice_get (xs ++ ys) i ≡ Some x
at-left [] ys i x h = absurd (none-some x h)
at-left (z ∷ xs) ys zero x h = h
at-left (z ∷ xs) ys (suc i) x h = at-left xs ys i x h

-- a place is among the first or among the last
pub at-either : {X : Type 0} (xs ys : List X) (i : ℕ) (x : X) → slice_get (xs ++ ys) i ≡ Some x
    → (slice_get xs i ≡ Some x) ⊎ ((j : ℕ) × (i ≡ length xs + j) × (slice_get ys j ≡ Some x))
at-either [] ys i x h = inr (i, omega arith, h)
at-either (z ∷ xs) ys zero x h = inl h
at-either (z ∷ xs) ys (suc i) x h = by (at-either xs ys i x h)
  where
    by : (slice_get xs i ≡ Some x) ⊎ ((j : ℕ) × (i ≡ length xs + j) × (slice_get ys j ≡ Some x))
        → (slice_get xs i ≡ Some x) ⊎ ((j : ℕ) × (suc i ≡ suc (length xs) + j) × (slice_get ys j ≡ Some x))
    by (inl here) = inl here
    by (inr (j, e, there)) = inr (j, omega (arith, e), there)

-- one alone stands at place 0
pub at-one : {X : Type 0} (x y : X) (j : ℕ) → slice_get (x ∷ []) j ≡ Some y → (j ≡ 0) × (x ≡ y)
at-one x y zero h = (refl, same_Some x y h)
at-one x y (suc j) h = absurd (none-some y h)

pub or-right : (a b : Bool) → b ≡ true → (a || b) ≡ true
or-right true b h = refl
or-right false b h = h

-- a name that stands at a place is among the names
pub at-is_among : (names : List (List ℕ)) (name : List ℕ) (i : ℕ) → slice_get names i ≡ Some name → is_among names name ≡ true
at-is_among [] name i h = absurd (none-some name h)
at-is_among (x ∷ xs) name zero h =
    let same : name ≡ x = sym (same_Some x name h) in
    ap (λ b. b || is_among xs name) ((bytes_eq-Decides name x).1 same)
at-is_among (x ∷ xs) name (suc i) h = or-right (bytes_eq name x) (is_among xs name) (at-is_among xs name i h)

-- a name that isn't among names that stand once stands once behind them
pub distinct-push : (names : List (List ℕ)) (name : List ℕ) → AreDistinct names → is_among names name ≡ false → AreDistinct (names ++ name ∷ [])
distinct-push names name distinct new i j x hi hj = by (at-either names (name ∷ []) i x hi) (at-either names (name ∷ []) j x hj)
  where
    clash : (k l : ℕ) → slice_get names k ≡ Some x → slice_get (name ∷ []) l ≡ Some x → ⊥
    clash k l here last =
        let same : name ≡ x = (at-one name x l last).1 in
        true≢false (sym (at-is_among names name k (here ∙ ap Some (sym same))) ∙ new)

    by : (slice_get names i ≡ Some x) ⊎ ((k : ℕ) × (i ≡ length names + k) × (slice_get (name ∷ []) k ≡ Some x))
        → (slice_get names j ≡ Some x) ⊎ ((k : ℕ) × (j ≡ length names + k) × (slice_get (name ∷ []) k ≡ Some x)) → i ≡ j
    by (inl left) (inl right) = distinct i j x left right
    by (inl left) (inr (l, e, last)) = absurd (clash i l left last)
    by (inr (k, e, last)) (inl right) = absurd (clash j k right last)
    by (inr (k, e, one)) (inr (l, f, other)) = omega (arith, e, f, (at-one name x k one).0, (at-one name x l other).0)

-- what goes last stands behind the others
last_at : {X : Type 0} (xs : List X) (x : X) → slice_get (xs ++ x ∷ []) (length xs) ≡ Some x
last_at [] x = refl
last_at (y ∷ xs) x = last_at xs x

pub at-last : {X : Type 0} (xs new : List X) (x : X) (i : ℕ) → new ≡ xs ++ x ∷ [] → i ≡ length xs → slice_get new i ≡ Some x
at-last xs new x i grown at = ap (λ ys. slice_get ys i) grown ∙ ap (slice_get (xs ++ x ∷ [])) at ∙ last_at xs x

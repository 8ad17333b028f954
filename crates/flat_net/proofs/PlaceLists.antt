-- The drivers of latches after a cut, so far.
use Rattle.std.proofs.Common.{◌≡◌, ◌+◌, ◌<◌, ◌≤◌, ◌∙◌, ℕ, Bool, true, false, not, cond, List, [], ◌∷◌, ◌++◌, length, take, slice_get, Some, refl, sym, ap, subst, arith, inl, inr}
use Rattle.std.specs.Prelude.{◌⊎◌}
use Rattle.std.specs.List.{filter}
use Rattle.std.proofs.lemmas.Bool.{cases_lt}
use Rattle.std.proofs.lemmas.Option.{same_Some}
use Rattle.base_tables.specs.Table.{is_among}
use Rattle.base_tables.proofs.TableLemmas.{take-push}
use Rattle.flat_net.proofs.Growth.{slice_get-append, slice_get-push, length-push}
use Rattle.flat_net.specs.declared.parts.LatchAt.{LatchAt}
use Rattle.flat_net.specs.declared.parts.Driver.{Driver}
use Rattle.flat_net.specs.declared.parts.Driver.TheVariants as driver
use Rattle.flat_net.specs.Cut.{stays, IsPlaceOf}

-- the first i latches have their drivers, and so many of them stay
pub record PlacesSoFar (names : List (List ℕ)) (inputs : ℕ) (latches : List LatchAt) (i left : ℕ) (places : List Driver) : Type 0 where
  pub len : length places ≡ i
  pub count : left ≡ length (filter (stays names) (take i latches))
  pub low : left ≤ i
  pub each : (j : ℕ) (l : LatchAt) → j < i → slice_get latches j ≡ Some l →
      (d : Driver) × (slice_get places j ≡ Some d) × IsPlaceOf names inputs (length (filter (stays names) (take j latches))) l.name d

-- one more element that passes, or doesn't
pub filter-push : {X : Type 0} (p : X → Bool) (xs : List X) (x : X) → filter p (xs ++ x ∷ []) ≡ cond (p x) (filter p xs ++ x ∷ []) (filter p xs)
filter-push p [] x = refl
filter-push {X} p (y ∷ xs) x = by (p y) (p x) (filter-push p xs x)
  where
    by : (a b : Bool) → filter p (xs ++ x ∷ []) ≡ cond b (filter p xs ++ x ∷ []) (filter p xs) →
        cond a (y ∷ filter p (xs ++ x ∷ [])) (filter p (xs ++ x ∷ [])) ≡ cond b (cond a (y ∷ filter p xs) (filter p xs) ++ x ∷ []) (cond a (y ∷ filter p xs) (filter p xs))
    by true true h = ap (λ t. y ∷ t) h
    by true false h = ap (λ t. y ∷ t) h
    by false b h = h

-- one latch more that stays, or doesn't
pub filter-take : {X : Type 0} (p : X → Bool) (xs : List X) (i : ℕ) (x : X) → slice_get xs i ≡ Some x
    → filter p (take (i + 1) xs) ≡ cond (p x) (filter p (take i xs) ++ x ∷ []) (filter p (take i xs))
filter-take p xs i x here = ap (filter p) (sym (take-push xs i x here)) ∙ filter-push p (take i xs) x

module _ (names : List (List ℕ)) (inputs : ℕ) (latches : List LatchAt) where
  -- the places of one latch more
  each_more : (i : ℕ) (places : List Driver) (l : LatchAt) (d : Driver) → length places ≡ i → slice_get latches i ≡ Some l →
      ((j : ℕ) (k : LatchAt) → j < i → slice_get latches j ≡ Some k → (e : Driver) × (slice_get places j ≡ Some e) × IsPlaceOf names inputs (length (filter (stays names) (take j latches))) k.name e) →
      IsPlaceOf names inputs (length (filter (stays names) (take i latches))) l.name d →
      (j : ℕ) (k : LatchAt) → j < i + 1 → slice_get latches j ≡ Some k → (e : Driver) × (slice_get (places ++ d ∷ []) j ≡ Some e) × IsPlaceOf names inputs (length (filter (stays names) (take j latches))) k.name e
  each_more i places l d len here old own j k below at = pick (cases_lt j i)
    where
      pick : (j < i) ⊎ (i ≤ j) → (e : Driver) × (slice_get (places ++ d ∷ []) j ≡ Some e) × IsPlaceOf names inputs (length (filter (stays names) (take j latches))) k.name e
      pick (inl before) = let e = old j k before at in (e.0, slice_get-append places (d ∷ []) j e.0 e.1, e.2)
      pick (inr behind) =
          let same : i ≡ j = omega (arith, below, behind) in
          let latch : l ≡ k = same_Some l k (sym here ∙ ap (slice_get latches) same ∙ at) in
          let moved = subst (λ m. IsPlaceOf names inputs (length (filter (stays names) (take m latches))) l.name d) same own in
          (d, slice_get-push places d j (sym same ∙ sym len), subst (λ (m : LatchAt). IsPlaceOf names inputs (length (filter (stays names) (take j latches))) m.name d) latch moved)

  -- a latch that is exposed
  pub places_input : (i left : ℕ) (places : List Driver) (l : LatchAt) (k : ℕ) (after : List Driver) → PlacesSoFar names inputs latches i left places → slice_get latches i ≡ Some l →
      slice_get names k ≡ Some l.name → is_among names l.name ≡ true → after ≡ places ++ driver.Input (inputs + k) ∷ [] → PlacesSoFar names inputs latches (i + 1) left after
  places_input i left places l k after before here at among is =
      let same : filter (stays names) (take (i + 1) latches) ≡ filter (stays names) (take i latches) =
      filter-take (stays names) latches i l here ∙ ap (λ b. cond (not b) (filter (stays names) (take i latches) ++ l ∷ []) (filter (stays names) (take i latches))) among in
      let whole : PlacesSoFar names inputs latches (i + 1) left (places ++ driver.Input (inputs + k) ∷ []) = record {
        len = length-push places (driver.Input (inputs + k)) ∙ ap (λ m. m + 1) before.len;
        count = before.count ∙ ap length (sym same);
        low = omega (arith, before.low);
        each = each_more i places l (driver.Input (inputs + k)) before.len here before.each (k, refl, at);
      } in
      subst (PlacesSoFar names inputs latches (i + 1) left) (sym is) whole

  -- a latch that stays
  pub places_latch : (i left : ℕ) (places : List Driver) (l : LatchAt) (after : List Driver) → PlacesSoFar names inputs latches i left places → slice_get latches i ≡ Some l →
      is_among names l.name ≡ false → after ≡ places ++ driver.Latch left ∷ [] → PlacesSoFar names inputs latches (i + 1) (left + 1) after
  places_latch i left places l after before here among is =
      let more : filter (stays names) (take (i + 1) latches) ≡ filter (stays names) (take i latches) ++ l ∷ [] =
      filter-take (stays names) latches i l here ∙ ap (λ b. cond (not b) (filter (stays names) (take i latches) ++ l ∷ []) (filter (stays names) (take i latches))) among in
      let whole : PlacesSoFar names inputs latches (i + 1) (left + 1) (places ++ driver.Latch left ∷ []) = record {
        len = length-push places (driver.Latch left) ∙ ap (λ m. m + 1) before.len;
        count = ap (λ m. m + 1) before.count ∙ sym (ap length more ∙ length-push (filter (stays names) (take i latches)) l);
        low = omega (arith, before.low);
        each = each_more i places l (driver.Latch left) before.len here before.each (before.count, among);
      } in
      subst (PlacesSoFar names inputs latches (i + 1) (left + 1)) (sym is) whole

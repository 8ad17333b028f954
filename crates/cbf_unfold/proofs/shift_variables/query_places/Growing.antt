-- The places of one variable more.
use Rattle.std.proofs.Common.{◌≡◌, ◌≢◌, ℕ, zero, suc, ◌-◌, ◌<◌, List, [], ◌∷◌, ◌++◌, length, take, get_or, slice_get, Some, refl, ◌∙◌, ap, subst, arith, inl, inr}
use Rattle.std.specs.Prelude.{◌⊎◌}
use Rattle.std.specs.List.{Contains}
use Rattle.std.proofs.lemmas.List.Elements.{Contains-append_cases, Contains-append_left, Contains-append_right}
use Rattle.std.proofs.lemmas.Option.{slice_get_within, slice_get-get_or, same_Some}
use Rattle.circuit_theory.proofs.Lists.{Contains-head, Contains-tail, only}
use Rattle.cbf_unfold.proofs.unfold_places.InputLists.{pairs_push}
use Rattle.cbf_unfold.proofs.shift_variables.CycleRows.{in_front}
use Rattle.cbf_unfold.specs.shift_variables.query_places.Places.{place_of, AreGrouped, ArePlacesOf, ComesFirst, ComeInTurn}

contains_take : (xs : List ℕ) (i j x : ℕ) → j < i → slice_get xs j ≡ Some x → Contains (take i xs) x
contains_take [] i j x l at = absurd (let h = slice_get_within [] j x at in omega (arith, h))
contains_take (y ∷ xs) zero j x l at = absurd (omega arith)
contains_take (y ∷ xs) (suc i) zero x l at = subst (Contains (y ∷ take i xs)) (same_Some y x at) (Contains-head y (take i xs))
contains_take (y ∷ xs) (suc i) (suc j) x l at = Contains-tail y x (take i xs) (contains_take xs i j x (omega arith) at)

module _ (table : List (ℕ × ℕ)) where
  pub places_none : ArePlacesOf table [] []
  places_none = record { distinct = λ i j d l m. absurd (omega arith); from = λ k h. absurd (omega (arith, h.1)); all = λ v h. absurd (omega (arith, h.1)) }

  -- its place is there already
  pub places_same : (vars places : List ℕ) (v : ℕ) → ArePlacesOf table vars places → Contains places (place_of table v) → ArePlacesOf table (vars ++ v ∷ []) places
  places_same vars places v are there = record {
    distinct = are.distinct;
    from = λ k h. let u = are.from k h in (u.0, Contains-append_left vars (v ∷ []) u.0 u.1, u.2);
    all = λ u h. by u (Contains-append_cases vars (v ∷ []) u h);
  }
    where
      by : (u : ℕ) → Contains vars u ⊎ Contains (v ∷ []) u → Contains places (place_of table u)
      by u (inl h) = are.all u h
      by u (inr h) = subst (λ (w : ℕ). Contains places (place_of table w)) (only v u h) there

  -- it is a new one
  pub places_more : (vars places : List ℕ) (v : ℕ) → ArePlacesOf table vars places → (Contains places (place_of table v) → ⊥) → ArePlacesOf table (vars ++ v ∷ []) (places ++ place_of table v ∷ [])
  places_more vars places v are new = record {
    distinct = pairs_push (λ j k. j ≢ k) places (place_of table v) are.distinct (λ j h e. new (subst (Contains places) e h));
    from = λ k h. back k (Contains-append_cases places (place_of table v ∷ []) k h);
    all = λ u h. by u (Contains-append_cases vars (v ∷ []) u h);
  }
    where
      back : (k : ℕ) → Contains places k ⊎ Contains (place_of table v ∷ []) k → (u : ℕ) × Contains (vars ++ v ∷ []) u × (place_of table u ≡ k)
      back k (inl h) = let u = are.from k h in (u.0, Contains-append_left vars (v ∷ []) u.0 u.1, u.2)
      back k (inr h) = (v, Contains-append_right vars (v ∷ []) v (Contains-head v []), only (place_of table v) k h)

      by : (u : ℕ) → Contains vars u ⊎ Contains (v ∷ []) u → Contains (places ++ place_of table v ∷ []) (place_of table u)
      by u (inl h) = Contains-append_left places (place_of table v ∷ []) (place_of table u) (are.all u h)
      by u (inr h) = Contains-append_right places (place_of table v ∷ []) (place_of table u) (subst (λ (w : ℕ). Contains (place_of table v ∷ []) (place_of table w)) (only v u h) (Contains-head (place_of table v) []))

  -- a variable whose place differs from that of the one before it has a new place
  is_new : (vars places : List ℕ) (i u v : ℕ) → AreGrouped table vars → slice_get vars i ≡ Some u → slice_get vars (suc i) ≡ Some v → (place_of table u ≡ place_of table v → ⊥) → ArePlacesOf table (take (suc i) vars) places →
      Contains places (place_of table v) → ⊥
  is_new vars places i u v grouped at next differ are h =
      let w = are.from (place_of table v) h in
      let k = in_front vars (suc i) w.0 w.1 in
      differ (grouped k.0 i (suc i) w.0 u v (omega (arith, k.1)) (omega arith) k.2 at next w.2)

  pub new_at : (vars places : List ℕ) (i : ℕ) → i < length vars → AreGrouped table vars → (0 < i → place_of table (get_or vars (i - 1) 0) ≡ place_of table (get_or vars i 0) → ⊥) → ArePlacesOf table (take i vars) places →
      Contains places (place_of table (get_or vars i 0)) → ⊥
  new_at vars places zero inside grouped differ are h = let w = are.from (place_of table (get_or vars 0 0)) h in nowhere vars w.0 w.1
    where
      nowhere : (xs : List ℕ) (x : ℕ) → Contains (take 0 xs) x → ⊥
      nowhere xs x k = let at = in_front xs 0 x k in omega (arith, at.1)
  new_at vars places (suc i) inside grouped differ are h =
      let before : suc i - 1 ≡ i = omega arith in
      is_new vars places i (get_or vars i 0) (get_or vars (suc i) 0) grouped (slice_get-get_or vars i 0 (omega arith)) (slice_get-get_or vars (suc i) 0 inside)
      (λ e. differ (omega arith) (ap (λ k. place_of table (get_or vars k 0)) before ∙ e)) are h

  -- the place of the one before is among those so far
  pub met_at : (vars places : List ℕ) (i : ℕ) → i < length vars → 0 < i → place_of table (get_or vars (i - 1) 0) ≡ place_of table (get_or vars i 0) → ArePlacesOf table (take i vars) places → Contains places (place_of table (get_or vars i 0))
  met_at vars places i inside some same are =
      subst (Contains places) same (are.all (get_or vars (i - 1) 0) (contains_take vars i (i - 1) (get_or vars (i - 1) 0) (omega arith) (slice_get-get_or vars (i - 1) 0 (omega arith))))

  pub turn_none : (vars : List ℕ) → ComeInTurn table vars []
  turn_none vars = λ i j d l m. absurd (omega arith)

  -- each place so far is that of a variable before this one
  pub turn_more : (vars places : List ℕ) (i : ℕ) → i < length vars → ArePlacesOf table (take i vars) places → ComeInTurn table vars places → ComeInTurn table vars (places ++ place_of table (get_or vars i 0) ∷ [])
  turn_more vars places i inside are turn = pairs_push (ComesFirst table vars) places (place_of table (get_or vars i 0)) turn each
    where
      each : (j : ℕ) → Contains places j → ComesFirst table vars j (place_of table (get_or vars i 0))
      each j h =
          let u = are.from j h in
          let at = in_front vars i u.0 u.1 in
          record {
            early = at.0;
            late = i;
            first = u.0;
            second = get_or vars i 0;
            before = at.1;
            first_at = at.2;
            second_at = slice_get-get_or vars i 0 inside;
            first_place = u.2;
            second_place = refl;
          }

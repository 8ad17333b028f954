-- One query more: its places, those that are new, and their numbers.
use Rattle.std.proofs.Common.{◌≡◌, ◌≢◌, ◌+◌, ◌-◌, ◌*◌, ◌^◌, ◌<◌, ◌≤◌, min, ℕ, List, [], ◌∷◌, ◌++◌, map, length, get_or, slice_get, Some, refl, sym, ◌∙◌, ap, subst, arith, inl, inr}
use Rattle.std.specs.Prelude.{◌⊎◌}
use Rattle.std.specs.List.{All, AllPairs, AllZip, Contains, sum_by}
use Rattle.std.proofs.lemmas.List.{map-append}
use Rattle.std.proofs.lemmas.List.Elements.{All-contains, All-head, All-nil, All-tail, Contains-append_left, Contains-append_right}
use Rattle.std.proofs.lemmas.List.Sums.{sum_by-cons}
use Rattle.std.proofs.lemmas.Option.{slice_get_within, slice_get-get_or, get_or_from_slice_get}
use Rattle.circuit_theory.proofs.Lists.{Contains-head, Contains-map, Contains-map_from, All-from_each, at_of, of_at, zip_push, zip_right, zip_weaker, length-map}
use Rattle.circuit_theory.proofs.Sums.{sum_within}
use Rattle.base_tables.specs.Table.{AreDistinct}
use Rattle.obligations.specs.pair_decide.Query.{Query}
use Rattle.cbf_unfold.specs.unfold_places.Reach.{Adds}
use Rattle.cbf_unfold.proofs.unfold_places.Lists.{adds_at, adds_from, adds_length, pairs_map}
use Rattle.assume_queries.proofs.assume_functions.signal_graph.Lists.{AllPairs-from_at}
use Rattle.cbf_unfold.specs.shift_variables.query_places.Places.{place_of, ArePlacesOf, ComeInTurn}
use Rattle.assume_queries.specs.declared.assume_functions.assume_places.gathered.QueryPlaces.{QueryPlaces}
use Rattle.assume_queries.specs.assume_functions.assume_places.Gathered.{HasPlaces, IsRead, ArePlacesOfAll, IsAmong, place_at, AreOwn, AreGathered, IsOverUnder, IsLightUnder}

ones : {X : Type 0} (xs : List X) → sum_by (λ x. 1) xs ≡ length xs
ones [] = refl
ones (x ∷ xs) = omega (arith, sum_by-cons (λ y. 1) x xs, ones xs)

-- distinct numbers of a list are at most as many
fewer : (xs ys : List ℕ) → AllPairs (λ x y. x ≢ y) xs → ((x : ℕ) → Contains xs x → Contains ys x) → length xs ≤ length ys
fewer xs ys differ among =
    let sums : sum_by (λ (x : ℕ). 1) xs ≤ sum_by (λ (x : ℕ). 1) ys = sum_within (λ (x : ℕ). 1) (λ (x y : ℕ). x ≡ y) (λ x y z p q. p ∙ sym q) xs ys differ (λ x h. (x, among x h, refl, refl)) in
    omega (arith, sums, ones xs, ones ys)

abbrev firsts : List (ℕ × ℕ) → List ℕ
firsts found = map (λ (p : ℕ × ℕ). p.0) found

abbrev places_in : List (ℕ × ℕ) → List ℕ
places_in table = map (λ (p : ℕ × ℕ). p.1) table

-- a variable's place is among those of the table
place_in : (table : List (ℕ × ℕ)) (v : ℕ) → v < length table → Contains (places_in table) (place_of table v)
place_in table v h = Contains-map (λ (p : ℕ × ℕ). p.1) table (get_or table v (0, 0)) (of_at table v (get_or table v (0, 0)) (slice_get-get_or table v (0, 0) h))

module _ (table : List (ℕ × ℕ)) where
  -- a query has no more places than the table has entries
  pub own_few : (q : Query) (places : List ℕ) → HasPlaces table q → ArePlacesOf table q.vars places → length places ≤ length table
  own_few q places has are =
      let few = fewer places (places_in table) are.distinct (λ k h. let u = are.from k h in subst (Contains (places_in table)) u.2 (place_in table u.0 (All-contains (λ v. v < length table) q.vars u.0 has.within u.1))) in
      omega (arith, few, length-map (λ (p : ℕ × ℕ). p.1) table)

  -- the places of distinct entries with zeros are distinct
  pub firsts_differ : (found : List (ℕ × ℕ)) → AreDistinct found → All (λ (p : ℕ × ℕ). p.1 ≡ 0) found → AllPairs (λ j k. j ≢ k) (firsts found)
  firsts_differ found distinct zeros =
      pairs_map (λ (p : ℕ × ℕ). p.0) (λ p q. p.0 ≢ q.0) (λ j k. j ≢ k) found (λ p q hp hq apart. apart) (AllPairs-from_at (λ (p q : ℕ × ℕ). p.0 ≢ q.0) found apart)
    where
      zero_at : (i : ℕ) (p : ℕ × ℕ) → slice_get found i ≡ Some p → p.1 ≡ 0
      zero_at i p at = All-contains (λ (r : ℕ × ℕ). r.1 ≡ 0) found p zeros (of_at found i p at)

      apart : (i j : ℕ) (p q : ℕ × ℕ) → i < j → slice_get found i ≡ Some p → slice_get found j ≡ Some q → p.0 ≡ q.0 → ⊥
      apart i j p q below at_i at_j same =
          let zp = zero_at i p at_i in
          let zq = zero_at j q at_j in
          let one : p ≡ q = λ k. (same k, (zp ∙ sym zq) k) in
          let e : i ≡ j = distinct i j q (at_i ∙ ap Some one) at_j in
          omega (arith, below, e)

  -- nor have all of them
  pub all_few : (qs : List Query) (found : QueryPlaces) → AreGathered table qs found → length found.table ≤ length table
  all_few qs found are =
      let few = fewer (firsts found.table) (places_in table) (firsts_differ found.table are.distinct are.zeros) among in
      omega (arith, few, length-map (λ (p : ℕ × ℕ). p.1) table, length-map (λ (p : ℕ × ℕ). p.0) found.table)
    where
      among : (k : ℕ) → Contains (firsts found.table) k → Contains (places_in table) k
      among k h =
          let p = Contains-map_from (λ (r : ℕ × ℕ). r.0) found.table k h in
          let v = are.inside p.0 p.1 in
          subst (Contains (places_in table)) (v.2 ∙ p.2) (place_in table v.0 v.1)

  place_later : (P : ℕ × ℕ → Type 0) (old new : List (ℕ × ℕ)) → Adds P old new → (n : ℕ) → n < length old → place_at new n ≡ place_at old n
  place_later P old new adds n h = ap (λ (p : ℕ × ℕ). p.0) (get_or_from_slice_get new n (get_or old n (0, 0)) (0, 0) (adds_at P old new n (get_or old n (0, 0)) adds (slice_get-get_or old n (0, 0) h)))

  pub places_later : (P : ℕ × ℕ → Type 0) (old new : List (ℕ × ℕ)) → Adds P old new → (own : List ℕ) → All (λ n. n < length old) own → map (place_at new) own ≡ map (place_at old) own
  places_later P old new adds [] within = refl
  places_later P old new adds (n ∷ own) within =
      let head : place_at new n ≡ place_at old n = place_later P old new adds n (All-head (λ m. m < length old) n own within) in
      let tail : map (place_at new) own ≡ map (place_at old) own = places_later P old new adds own (All-tail (λ m. m < length old) n own within) in
      cc

  pub own_later : (P : ℕ × ℕ → Type 0) (old new : List (ℕ × ℕ)) → Adds P old new → (q : Query) (own : List ℕ) → AreOwn table old q own → AreOwn table new q own
  own_later P old new adds q own are =
      let same = places_later P old new adds own are.within in
      record {
        within = All-from_each (λ n. n < length new) own (λ n h. let l = All-contains (λ m. m < length old) own n are.within h in let more = adds_length P old new adds in omega (arith, l, more));
        places = subst (ArePlacesOf table q.vars) (sym same) are.places;
        turn = subst (ComeInTurn table q.vars) (sym same) are.turn;
      }

  pub gathered_none : (found : QueryPlaces) → found.table ≡ [] → found.own.items ≡ [] → found.count ≡ 0 → AreGathered table [] found
  gathered_none found empty none zero = record {
    distinct = subst (λ (ps : List (ℕ × ℕ)). AreDistinct ps) (sym empty) (λ i j x at_i at_j. absurd (let h = slice_get_within [] i x at_i in omega (arith, h)));
    zeros = subst (All (λ (p : ℕ × ℕ). p.1 ≡ 0)) (sym empty) (All-nil (λ (p : ℕ × ℕ). p.1 ≡ 0));
    from = λ p h. absurd (nowhere p h);
    inside = λ p h. absurd (nowhere p h);
    each = subst (λ (l : List (List ℕ)). AllZip (AreOwn table found.table) [] l) (sym none) tt;
    count = zero ∙ ap (λ (l : List (List ℕ)). min (sum_by length l) (2 ^ 64 - 1)) (sym none);
  }
    where
      nowhere : (p : ℕ × ℕ) → Contains found.table p → ⊥
      nowhere p h = let k = subst (λ (ps : List (ℕ × ℕ)). Contains ps p) empty h in omega (arith, k.1)

  sum_push : (own : List (List ℕ)) (new : List ℕ) → sum_by length (own ++ new ∷ []) ≡ sum_by length own + length new
  sum_push [] new = sum_by-cons length new [] ∙ omega arith
  sum_push (x ∷ own) new = sum_by-cons length x (own ++ new ∷ []) ∙ ap (λ n. length x + n) (sum_push own new) ∙ omega (arith, sum_by-cons length x own)

  pub gathered_more : (qs : List Query) (q : Query) (old new : QueryPlaces) (places own : List ℕ) → HasPlaces table q → AreGathered table qs old → ArePlacesOf table q.vars places → ComeInTurn table q.vars places →
      AreDistinct new.table → map (place_at new.table) own ≡ places → All (λ n. n < length new.table) own → Adds (IsAmong places) old.table new.table →
      new.own.items ≡ old.own.items ++ own ∷ [] → new.count ≡ min (old.count + length own) (2 ^ 64 - 1) → AreGathered table (qs ++ q ∷ []) new
  gathered_more qs q old new places own has are found turn distinct same within adds pushed counted = record {
    distinct = distinct;
    zeros = All-from_each (λ (p : ℕ × ℕ). p.1 ≡ 0) new.table (λ p h. zero_in p (adds_from (IsAmong places) old.table new.table p adds h));
    from = λ p h. read_in p (adds_from (IsAmong places) old.table new.table p adds h);
    inside = λ p h. inside_in p (adds_from (IsAmong places) old.table new.table p adds h);
    each = subst (λ (l : List (List ℕ)). AllZip (AreOwn table new.table) (qs ++ q ∷ []) l) (sym pushed)
        (zip_push (AreOwn table new.table) qs old.own.items q own
        (zip_weaker (AreOwn table old.table) (AreOwn table new.table) (λ r o h. own_later (IsAmong places) old.table new.table adds r o h) qs old.own.items are.each)
        (record { within = within; places = subst (ArePlacesOf table q.vars) (sym same) found; turn = subst (ComeInTurn table q.vars) (sym same) turn }));
    count =
        let sum : sum_by length new.own.items ≡ sum_by length old.own.items + length own = ap (λ (l : List (List ℕ)). sum_by length l) pushed ∙ sum_push old.own.items own in
        omega (arith, counted, are.count, sum);
  }
    where
      zero_in : (p : ℕ × ℕ) → Contains old.table p ⊎ IsAmong places p → p.1 ≡ 0
      zero_in p (inl h) = All-contains (λ (r : ℕ × ℕ). r.1 ≡ 0) old.table p are.zeros h
      zero_in p (inr h) = h.0

      read_in : (p : ℕ × ℕ) → Contains old.table p ⊎ IsAmong places p → IsRead table (qs ++ q ∷ []) p.0
      read_in p (inl h) = let r = are.from p h in (r.0, r.1, Contains-append_left qs (q ∷ []) r.0 r.2, r.3, r.4)
      read_in p (inr h) = let u = found.from p.0 h.1 in (q, u.0, Contains-append_right qs (q ∷ []) q (Contains-head q []), u.1, u.2)

      inside_in : (p : ℕ × ℕ) → Contains old.table p ⊎ IsAmong places p → (v : ℕ) × (v < length table) × (place_of table v ≡ p.0)
      inside_in p (inl h) = are.inside p h
      inside_in p (inr h) = let u = found.from p.0 h.1 in (u.0, All-contains (λ v. v < length table) q.vars u.0 has.within u.1, u.2)

  -- as lists of places
  zip_places : (found : List (ℕ × ℕ)) (qs : List Query) (own : List (List ℕ)) → AllZip (AreOwn table found) qs own → AllZip (λ (q : Query) (ks : List ℕ). ArePlacesOf table q.vars ks) qs (map (λ (ns : List ℕ). map (place_at found) ns) own)
  zip_places found [] [] h = tt
  zip_places found [] (x ∷ own) h = absurd h
  zip_places found (q ∷ qs) [] h = absurd h
  zip_places found (q ∷ qs) (x ∷ own) h = (h.0.places, zip_places found qs own h.1)

  zip_has : (found : List (ℕ × ℕ)) (qs : List Query) (own : List (List ℕ)) → AllZip (AreOwn table found) qs own → (q : Query) (v : ℕ) → Contains qs q → Contains q.vars v → Contains (firsts found) (place_of table v)
  zip_has found qs own zip q v among here =
      let at = at_of qs q among in
      let z = right qs own zip at.0 at.1 in
      let n = Contains-map_from (place_at found) z.0 (place_of table v) (z.1.places.all v here) in
      let small : n.0 < length found = All-contains (λ m. m < length found) z.0 n.0 z.1.within n.1 in
      subst (Contains (firsts found)) n.2 (Contains-map (λ (p : ℕ × ℕ). p.0) found (get_or found n.0 (0, 0)) (of_at found n.0 (get_or found n.0 (0, 0)) (slice_get-get_or found n.0 (0, 0) small)))
    where
      right : (rs : List Query) (os : List (List ℕ)) → AllZip (AreOwn table found) rs os → (i : ℕ) → slice_get rs i ≡ Some q → (ns : List ℕ) × AreOwn table found q ns
      right rs os h i at = let y = zip_right (AreOwn table found) rs os h i q at in (y.0, y.2)

  sum_map : (found : List (ℕ × ℕ)) (own : List (List ℕ)) → sum_by length (map (λ (ns : List ℕ). map (place_at found) ns) own) ≡ sum_by length own
  sum_map found [] = refl
  sum_map found (x ∷ own) =
      sum_by-cons length (map (place_at found) x) (map (λ (ns : List ℕ). map (place_at found) ns) own)
      ∙ omega (arith, length-map (place_at found) x, sum_map found own, sum_by-cons length x own)

  pub are_places : (qs : List Query) (found : QueryPlaces) → AreGathered table qs found → ArePlacesOfAll table qs (firsts found.table) (map (λ (ns : List ℕ). map (place_at found.table) ns) found.own.items)
  are_places qs found are = record {
    distinct = firsts_differ found.table are.distinct are.zeros;
    exactly = λ k. (
      λ h. let p = Contains-map_from (λ (r : ℕ × ℕ). r.0) found.table k h in subst (IsRead table qs) p.2 (are.from p.0 p.1),
      λ h. subst (Contains (firsts found.table)) h.4 (zip_has found.table qs found.own.items are.each h.0 h.1 h.2 h.3),
    );
    each = zip_places found.table qs found.own.items are.each;
  }

  -- and what is found to be over the limit is
  pub is_over : (qs : List Query) (found : QueryPlaces) (weight : ℕ) → AreGathered table qs found → 2000000 < weight * length found.table + sum_by length found.own.items → IsOverUnder weight table qs
  is_over qs found weight are over = record {
    all = firsts found.table;
    own = map (λ (ns : List ℕ). map (place_at found.table) ns) found.own.items;
    places = are_places qs found are;
    over =
        subst (λ k. 2000000 < weight * k + sum_by length (map (λ (ns : List ℕ). map (place_at found.table) ns) found.own.items)) (sym (length-map (λ (p : ℕ × ℕ). p.0) found.table))
        (omega (arith, over, sum_map found.table found.own.items));
  }

  pub is_light : (qs : List Query) (found : QueryPlaces) (weight : ℕ) → AreGathered table qs found → weight * length found.table + sum_by length found.own.items ≤ 2000000 → IsLightUnder weight table qs
  is_light qs found weight are light = record {
    all = firsts found.table;
    own = map (λ (ns : List ℕ). map (place_at found.table) ns) found.own.items;
    places = are_places qs found are;
    light =
        subst (λ k. weight * k + sum_by length (map (λ (ns : List ℕ). map (place_at found.table) ns) found.own.items) ≤ 2000000) (sym (length-map (λ (p : ℕ × ℕ). p.0) found.table))
        (omega (arith, light, sum_map found.table found.own.items));
  }

-- one place more has its number
pub numbers_more : (old new : List (ℕ × ℕ)) (own made taken more : List ℕ) (n place : ℕ) → Adds (λ (p : ℕ × ℕ). p ≡ (place, 0)) old new → All (λ m. m < length old) own → map (place_at old) own ≡ taken → slice_get new n ≡ Some (place, 0) →
    made ≡ own ++ n ∷ [] → more ≡ taken ++ place ∷ [] → map (place_at new) made ≡ more
numbers_more old new own made taken more n place adds within before at pushed next =
    ap (map (place_at new)) pushed
    ∙ (map-append (place_at new) own (n ∷ [])
    ∙ (ap (λ (ks : List ℕ). ks ++ place_at new n ∷ []) (places_later [] (λ (p : ℕ × ℕ). p ≡ (place, 0)) old new adds own within ∙ before)
    ∙ (ap (λ k. taken ++ k ∷ []) (ap (λ (p : ℕ × ℕ). p.0) (get_or_from_slice_get new n (place, 0) (0, 0) at)) ∙ sym next)))

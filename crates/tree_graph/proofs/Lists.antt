-- Lists that grow, and lists side by side.
use Rattle.std.proofs.Common.{◌≡◌, ◌≢◌, ℕ, zero, suc, ◌+◌, ◌<◌, ◌≤◌, ◌⊎◌, inl, inr, List, [], ◌∷◌, ◌++◌, length, map, drop, get_or, slice_get, Some, refl, sym, ap, subst, ◌∙◌, arith, append_assoc}
use Rattle.std.specs.Prelude.{slice_index_or}
use Rattle.std.specs.List.{All, AllZip, AllPairs, Contains}
use Rattle.std.proofs.lemmas.Option.{none-some, same_Some, slice_get_within, slice_get-get_or, get_or_from_slice_get}
use Rattle.std.proofs.lemmas.List.{append-nil}
use Rattle.std.proofs.lemmas.List.Elements.{All-contains}
use Rattle.circuit_theory.proofs.Lists.{at_of, map_at, All-from_each, Contains-map}
use Rattle.circuit_theory.proofs.Numbers.{distinct_at}
use Rattle.base_tables.specs.Table.{AreDistinct}
use Rattle.aig.proofs.Growth.{slice_get-append}
use Rattle.aig.proofs.Folds.{drop-next}
use Rattle.tree_graph.specs.Rooted.{entries}

-- one more of a list has what all before have
pub all_more : {X : Type 0} (P : X → Type 0) (xs : List X) (i : ℕ) (e : X) → ((k : ℕ) (d : X) → k < i → P (get_or xs k d)) → i < length xs → P (get_or xs i e) → (k : ℕ) (d : X) → k < i + 1 → P (get_or xs k d)
all_more P xs i e before inside here k d within = by (last k i within)
  where
    last : (k i : ℕ) → k < i + 1 → (k < i) ⊎ (k ≡ i)
    last k i h = grind arith

    by : (k < i) ⊎ (k ≡ i) → P (get_or xs k d)
    by (inl h) = before k d h
    by (inr h) = subst (λ (m : ℕ). P (get_or xs m d)) (sym h) (subst P (sym (get_or_from_slice_get xs i (get_or xs i e) d (slice_get-get_or xs i e inside))) here)

-- what holds of the images holds of what they are of
pub all_unmap : {X Y : Type 0} (P : Y → Type 0) (f : X → Y) (xs : List X) → All P (map f xs) → All (λ x. P (f x)) xs
all_unmap P f xs h = All-from_each (λ x. P (f x)) xs (λ x m. All-contains P (map f xs) (f x) h (Contains-map f xs x m))

right_at : {X Y : Type 0} (R : X → Y → Type 0) (P : Y → Type 0) → ((x : X) (y : Y) → R x y → P y) → (xs : List X) (ys : List Y) → AllZip R xs ys → (i : ℕ) (y : Y) → slice_get ys i ≡ Some y → P y
right_at R P follows [] [] h i y at = absurd (none-some y at)
right_at R P follows [] (z ∷ ys) h i y at = absurd h
right_at R P follows (x ∷ xs) [] h i y at = absurd h
right_at R P follows (x ∷ xs) (z ∷ ys) h zero y at = subst P (same_Some z y at) (follows x z h.0)
right_at R P follows (x ∷ xs) (z ∷ ys) h (suc i) y at = right_at R P follows xs ys h.1 i y at

-- what follows from each pair holds of the right list
pub all_right : {X Y : Type 0} (R : X → Y → Type 0) (P : Y → Type 0) → ((x : X) (y : Y) → R x y → P y) → (xs : List X) (ys : List Y) → AllZip R xs ys → All P ys
all_right R P follows xs ys zip = All-from_each P ys (λ y m. let at = at_of ys y m in right_at R P follows xs ys zip at.0 y at.1)

-- one more of a list stands behind those that were taken of it
pub push_more : {X Y : Type 0} (f : X → Y) (xs : List X) (whole before after : List Y) (i : ℕ) (d : X) → i < length xs → whole ≡ before ++ map f (drop i xs) → after ≡ before ++ f (get_or xs i d) ∷ [] → whole ≡ after ++ map f (drop (i + 1) xs)
push_more f xs whole before after i d inside is more =
    is ∙ ap (λ ys. before ++ map f ys) (drop-next xs i d inside) ∙ sym (append_assoc before (f (get_or xs i d) ∷ []) (map f (drop (i + 1) xs))) ∙ ap (λ ys. ys ++ map f (drop (i + 1) xs)) (sym more)

nothing_left : {X : Type 0} (xs : List X) (i : ℕ) → length xs ≤ i → drop i xs ≡ []
nothing_left [] zero h = refl
nothing_left [] (suc i) h = refl
nothing_left (x ∷ xs) zero h = absurd (omega arith)
nothing_left (x ∷ xs) (suc i) h = nothing_left xs i (omega arith)

pub push_done : {X Y : Type 0} (f : X → Y) (xs : List X) (whole after : List Y) (i : ℕ) → length xs ≤ i → whole ≡ after ++ map f (drop i xs) → after ≡ whole
push_done f xs whole after i past is = sym (is ∙ ap (λ ys. after ++ map f ys) (nothing_left xs i past) ∙ append-nil after)

module _ {X Y : Type 0} (R : X → Y → Type 0) where
  -- one more pair, behind those before
  pub zip_more : (xs : List X) (before after : List Y) (i : ℕ) (d : X) (y : Y) → i < length xs → after ≡ before ++ y ∷ [] → R (get_or xs i d) y → ((ys : List Y) → AllZip R (drop i xs) ys → AllZip R xs (before ++ ys)) → (ys : List Y) → AllZip R (drop (i + 1) xs) ys → AllZip R xs (after ++ ys)
  zip_more xs before after i d y inside more here rest ys zip =
      let whole : AllZip R (get_or xs i d ∷ drop (i + 1) xs) (y ∷ ys) = (here, zip) in
      subst (λ zs. AllZip R xs zs) (sym (append_assoc before (y ∷ []) ys) ∙ ap (λ zs. zs ++ ys) (sym more)) (rest (y ∷ ys) (subst (λ ws. AllZip R ws (y ∷ ys)) (sym (drop-next xs i d inside)) whole))

  pub zip_done : (xs : List X) (made : List Y) (i : ℕ) → length xs ≤ i → ((ys : List Y) → AllZip R (drop i xs) ys → AllZip R xs (made ++ ys)) → AllZip R xs made
  zip_done xs made i past rest =
      let none : AllZip R [] [] = tt in
      subst (λ zs. AllZip R xs zs) (append-nil made) (rest [] (subst (λ ws. AllZip R ws []) (sym (nothing_left xs i past)) none))

  pub zip_append : (xs : List X) (us : List Y) (ys : List X) (vs : List Y) → AllZip R xs us → AllZip R ys vs → AllZip R (xs ++ ys) (us ++ vs)
  zip_append [] [] ys vs h k = k
  zip_append [] (u ∷ us) ys vs h k = absurd h
  zip_append (x ∷ xs) [] ys vs h k = absurd h
  zip_append (x ∷ xs) (u ∷ us) ys vs h k = (h.0, zip_append xs us ys vs h.1 k)

  -- the last pair
  pub record Last (xs : List X) (x : X) (zs : List Y) : Type 0 where
    pub front : List Y
    pub last : Y
    pub is : zs ≡ front ++ last ∷ []
    pub each : AllZip R xs front
    pub here : R x last

  pub zip_last : (xs : List X) (x : X) (zs : List Y) → AllZip R (xs ++ x ∷ []) zs → Last xs x zs
  zip_last [] x [] h = absurd h
  zip_last [] x (z ∷ []) h = record { front = []; last = z; is = refl; each = tt; here = h.0 }
  zip_last [] x (z ∷ w ∷ zs) h = absurd h.1
  zip_last (y ∷ xs) x [] h = absurd h
  zip_last (y ∷ xs) x (z ∷ zs) h =
      let l = zip_last xs x zs h.1 in
      record { front = z ∷ l.front; last = l.last; is = ap (λ ws. z ∷ ws) l.is; each = (h.0, l.each); here = l.here }

  pub zip_none : (zs : List Y) → AllZip R [] zs → zs ≡ []
  zip_none [] h = refl
  zip_none (z ∷ zs) h = absurd h

-- what stands behind a list isn't in it, where nothing stands twice
behind : {X : Type 0} (xs ys : List X) (y : X) → slice_get (xs ++ y ∷ ys) (length xs) ≡ Some y
behind [] ys y = refl
behind (x ∷ xs) ys y = behind xs ys y

pub not_before : {X : Type 0} (xs ys : List X) (y : X) → AreDistinct (xs ++ y ∷ ys) → Contains xs y → ⊥
not_before xs ys y distinct h =
    let at = at_of xs y h in
    let same = distinct at.0 (length xs) y (slice_get-append xs (y ∷ ys) at.0 y at.1) (behind xs ys y) in
    omega (arith, same, slice_get_within xs at.0 y at.1)

index_at : (places : List (ℕ × ℕ)) (v : ℕ) (d : ℕ × ℕ) → v < length places → slice_get places v ≡ Some (slice_index_or places v d)
index_at [] v d h = absurd (omega arith)
index_at (p ∷ ps) zero d h = refl
index_at (p ∷ ps) (suc v) d h = index_at ps v d (omega arith)

-- distinct numbers have distinct entries
pub entries_distinct : (places : List (ℕ × ℕ)) (vars : List ℕ) → AreDistinct places → All (λ v. v < length places) vars → AllPairs (λ u v. u ≢ v) vars → AreDistinct (entries places vars)
entries_distinct places vars distinct within differ i j p at_i at_j =
    let f : ℕ → ℕ × ℕ = λ v. slice_index_or places v (0, 0) in
    let u = map_at f vars i p at_i in
    let v = map_at f vars j p at_j in
    let u_in : u.0 < length places = subst (λ (n : ℕ). n < length places) (get_or_from_slice_get vars i u.0 0 u.1) (within i 0 (slice_get_within vars i u.0 u.1)) in
    let v_in : v.0 < length places = subst (λ (n : ℕ). n < length places) (get_or_from_slice_get vars j v.0 0 v.1) (within j 0 (slice_get_within vars j v.0 v.1)) in
    let same : u.0 ≡ v.0 = distinct u.0 v.0 p (index_at places u.0 (0, 0) u_in ∙ ap Some u.2) (index_at places v.0 (0, 0) v_in ∙ ap Some v.2) in
    distinct_at (λ (n : ℕ). n) vars differ i j u.0 v.0 u.1 v.1 same

-- the next entry isn't among those before
pub next_entry : (places : List (ℕ × ℕ)) (vars : List ℕ) (table : List (ℕ × ℕ)) (i d : ℕ) (entry : ℕ × ℕ) → AreDistinct places → All (λ v. v < length places) vars → AllPairs (λ u v. u ≢ v) vars → i < length vars →
    entries places vars ≡ table ++ entries places (drop i vars) → slice_get places (get_or vars i d) ≡ Some entry → (entry ≡ slice_index_or places (get_or vars i d) (0, 0)) × (Contains table entry → ⊥)
next_entry places vars table i d entry distinct within differ inside is at =
    let f : ℕ → ℕ × ℕ = λ v. slice_index_or places v (0, 0) in
    let v : ℕ = get_or vars i d in
    let same : entry ≡ f v = same_Some entry (f v) (sym at ∙ index_at places v (0, 0) (within i d inside)) in
    let whole : entries places vars ≡ table ++ f v ∷ entries places (drop (i + 1) vars) = is ∙ ap (λ (vs : List ℕ). table ++ entries places vs) (drop-next vars i d inside) in
    (same, λ h. not_before table (entries places (drop (i + 1) vars)) (f v) (subst AreDistinct whole (entries_distinct places vars distinct within differ)) (subst (Contains table) same h))

-- Each two of increasing numbers, and lists beside them.
use Rattle.std.proofs.Common.{◌≡◌, ◌<◌, ℕ, List, [], ◌∷◌, ◌++◌, map, refl, ap, subst, arith, inl, inr}
use Rattle.std.specs.Prelude.{◌⊎◌, Contains}
use Rattle.std.specs.List.{AllPairs, AllZip}
use Rattle.std.proofs.lemmas.List.Elements.{Contains-append_cases, Contains-append_left, Contains-append_right}
use Rattle.std.proofs.lemmas.List.Kept.{AllPairs-cons}
use Rattle.circuit_theory.proofs.Lists.{All-from_each, Contains-cases, Contains-head, Contains-map, Contains-map_from, Contains-tail}
use Rattle.circuit_theory.proofs.Sums.{AllPairs-head, AllPairs-tail}
use Rattle.event_nodes.proofs.Lists.{pairs_map}
use Rattle.event_form.specs.event_findings.unshown_pairs.Telling.{two_of}

-- the number beside another
abbrev pub beside : ℕ → ℕ → ℕ × ℕ
beside k m = (k, m)

-- by the first number, then by the second
abbrev pub Earlier : ℕ × ℕ → ℕ × ℕ → Type 0
Earlier p q = (p.0 < q.0) ⊎ ((p.0 ≡ q.0) × (p.1 < q.1))

no_pairs : {X : Type 0} (R : X → X → Type 0) → AllPairs R []
no_pairs R i j d low inside = absurd (omega (arith, inside))

-- what stands before a list's elements stands before those of both
pairs_append : {X : Type 0} (R : X → X → Type 0) (xs ys : List X) → AllPairs R xs → AllPairs R ys → ((x y : X) → Contains xs x → Contains ys y → R x y) → AllPairs R (xs ++ ys)
pairs_append R [] ys first second across = second
pairs_append {X} R (x ∷ xs) ys first second across =
    AllPairs-cons R x (xs ++ ys) (All-from_each (R x) (xs ++ ys) (λ y h. either y (Contains-append_cases xs ys y h)))
    (pairs_append R xs ys (AllPairs-tail R x xs first) second (λ u v h k. across u v (Contains-tail x u xs h) k))
  where
    either : (y : X) → Contains xs y ⊎ Contains ys y → R x y
    either y (inl h) = AllPairs-head R x xs first y h
    either y (inr h) = across x y (Contains-head x xs) h

-- two of the numbers stand there, the lower one first
pub two_from : (ks : List ℕ) (i j : ℕ) → AllPairs ◌<◌ ks → Contains (two_of ks) (beside i j) → (i < j) × Contains ks i × Contains ks j
two_from [] i j rising h = absurd (omega (arith, h.1))
two_from (k ∷ ks) i j rising h = go (Contains-append_cases (map (beside k) ks) (two_of ks) (beside i j) h) (λ r. two_from ks i j (AllPairs-tail ◌<◌ k ks rising) r)
  where
    go : Contains (map (beside k) ks) (beside i j) ⊎ Contains (two_of ks) (beside i j) → (Contains (two_of ks) (beside i j) → (i < j) × Contains ks i × Contains ks j) → (i < j) × Contains (k ∷ ks) i × Contains (k ∷ ks) j
    go (inl m) later =
        let x = Contains-map_from (beside k) ks (beside i j) m in
        let first : k ≡ i = ap (λ (p : ℕ × ℕ). p.0) x.2 in
        let second : x.0 ≡ j = ap (λ (p : ℕ × ℕ). p.1) x.2 in
        let there : Contains ks j = subst (Contains ks) second x.1 in
        let low : k < j = AllPairs-head ◌<◌ k ks rising j there in
        (omega (arith, low, first), subst (Contains (k ∷ ks)) first (Contains-head k ks), Contains-tail k j ks there)
    go (inr r) later = let t = later r in (t.0, Contains-tail k i ks t.1, Contains-tail k j ks t.2)

-- and each two of them
pub two_to : (ks : List ℕ) (i j : ℕ) → AllPairs ◌<◌ ks → i < j → Contains ks i → Contains ks j → Contains (two_of ks) (beside i j)
two_to [] i j rising low hi hj = absurd (omega (arith, hi.1))
two_to (k ∷ ks) i j rising low hi hj = go (Contains-cases k i ks hi) (Contains-cases k j ks hj) (λ m n. two_to ks i j (AllPairs-tail ◌<◌ k ks rising) low m n)
  where
    go : (k ≡ i) ⊎ Contains ks i → (k ≡ j) ⊎ Contains ks j → (Contains ks i → Contains ks j → Contains (two_of ks) (beside i j)) → Contains (two_of (k ∷ ks)) (beside i j)
    go (inl a) (inl b) later = absurd (omega (arith, a, b, low))
    go (inl a) (inr m) later =
        Contains-append_left (map (beside k) ks) (two_of ks) (beside i j)
        (subst (λ (n : ℕ). Contains (map (beside k) ks) (beside n j)) a (Contains-map (beside k) ks j m))
    go (inr m) (inl b) later = absurd (let first : k < i = AllPairs-head ◌<◌ k ks rising i m in omega (arith, first, b, low))
    go (inr m) (inr n) later = Contains-append_right (map (beside k) ks) (two_of ks) (beside i j) (later m n)

-- they stand in order
pub two_rise : (ks : List ℕ) → AllPairs ◌<◌ ks → AllPairs Earlier (two_of ks)
two_rise [] rising = no_pairs Earlier
two_rise (k ∷ ks) rising =
    pairs_append Earlier (map (beside k) ks) (two_of ks)
    (pairs_map (beside k) ◌<◌ Earlier ks (λ x y h m low. inr (refl, low)) (AllPairs-tail ◌<◌ k ks rising))
    (two_rise ks (AllPairs-tail ◌<◌ k ks rising)) across
  where
    across : (p q : ℕ × ℕ) → Contains (map (beside k) ks) p → Contains (two_of ks) q → Earlier p q
    across p q first second =
        let x = Contains-map_from (beside k) ks p first in
        let same : k ≡ p.0 = ap (λ (r : ℕ × ℕ). r.0) x.2 in
        let t = two_from ks q.0 q.1 (AllPairs-tail ◌<◌ k ks rising) second in
        let low : k < q.0 = AllPairs-head ◌<◌ k ks rising q.0 t.1 in
        inl (omega (arith, same, low))

module _ {X Y : Type 0} (R : X → Y → Type 0) where
  -- beside each element stands one
  pub zip_first : (xs : List X) (ys : List Y) → AllZip R xs ys → (y : Y) → Contains ys y → (x : X) × Contains xs x × R x y
  zip_first [] [] all y h = absurd (omega (arith, h.1))
  zip_first [] (z ∷ ys) all y h = absurd all
  zip_first (x ∷ xs) [] all y h = absurd all
  zip_first (x ∷ xs) (z ∷ ys) all y h = go (Contains-cases z y ys h) (λ k. zip_first xs ys all.1 y k)
    where
      go : (z ≡ y) ⊎ Contains ys y → (Contains ys y → (w : X) × Contains xs w × R w y) → (w : X) × Contains (x ∷ xs) w × R w y
      go (inl e) later = (x, Contains-head x xs, subst (R x) e all.0)
      go (inr k) later = let w = later k in (w.0, Contains-tail x w.0 xs w.1, w.2)

  pub zip_second : (xs : List X) (ys : List Y) → AllZip R xs ys → (x : X) → Contains xs x → (y : Y) × Contains ys y × R x y
  zip_second [] [] all x h = absurd (omega (arith, h.1))
  zip_second [] (y ∷ ys) all x h = absurd all
  zip_second (w ∷ xs) [] all x h = absurd all
  zip_second (w ∷ xs) (y ∷ ys) all x h = go (Contains-cases w x xs h) (λ k. zip_second xs ys all.1 x k)
    where
      go : (w ≡ x) ⊎ Contains xs x → (Contains xs x → (z : Y) × Contains ys z × R x z) → (z : Y) × Contains (y ∷ ys) z × R x z
      go (inl e) later = (y, Contains-head y ys, subst (λ (u : X). R u y) e all.0)
      go (inr k) later = let z = later k in (z.0, Contains-tail y z.0 ys z.1, z.2)

  -- the order of the ones is that of the others
  pub zip_pairs : (P : X → X → Type 0) (Q : Y → Y → Type 0) → ((p q : X) (x y : Y) → R p x → R q y → P p q → Q x y) → (ps : List X) (xs : List Y) → AllZip R ps xs → AllPairs P ps → AllPairs Q xs
  zip_pairs P Q step [] [] all pairs = no_pairs Q
  zip_pairs P Q step [] (x ∷ xs) all pairs = absurd all
  zip_pairs P Q step (p ∷ ps) [] all pairs = absurd all
  zip_pairs P Q step (p ∷ ps) (x ∷ xs) all pairs =
      AllPairs-cons Q x xs (All-from_each (Q x) xs (λ y h. let q = zip_first ps xs all.1 y h in step p q.0 x y all.0 q.2 (AllPairs-head P p ps pairs q.0 q.1))) (zip_pairs P Q step ps xs all.1 (AllPairs-tail P p ps pairs))

-- a pair of lists with others behind
pub zip_append : {X Y : Type 0} (R : X → Y → Type 0) (xs us : List X) (ys vs : List Y) → AllZip R xs ys → AllZip R us vs → AllZip R (xs ++ us) (ys ++ vs)
zip_append R [] us [] vs first second = second
zip_append R [] us (y ∷ ys) vs first second = absurd first
zip_append R (x ∷ xs) us [] vs first second = absurd first
zip_append R (x ∷ xs) us (y ∷ ys) vs first second = (first.0, zip_append R xs us ys vs first.1 second)

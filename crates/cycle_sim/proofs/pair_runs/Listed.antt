-- The differences that are listed stand in order, and are those of the cycles and no others.
use Rattle.std.proofs.Common.{◌≡◌, ℕ, zero, suc, ◌+◌, Bool, true, false, cond, List, [], ◌∷◌, ◌++◌, length, slice_get, Some, refl, sym, ◌∙◌, ap, subst, arith, inl, inr, ◌⊎◌, append_assoc}
use Rattle.std.specs.List.{Contains, AllPairs}
use Rattle.std.proofs.lemmas.List.{append-nil}
use Rattle.std.proofs.lemmas.List.Elements.{Contains-append_left, Contains-append_right, Contains-append_cases}
use Rattle.std.proofs.lemmas.List.Kept.{AllPairs-cons}
use Rattle.std.proofs.lemmas.Option.{same_Some, none-some}
use Rattle.circuit_theory.specs.Replay.{Difference, IsBefore}
use Rattle.circuit_theory.proofs.Lists.{Contains-head, Contains-tail, Contains-cases, All-from_each}
use Rattle.circuit_theory.proofs.Sums.{AllPairs-head, AllPairs-tail}
use Rattle.cycle_sim.specs.pair_runs.Listing.{is_difference, differences_in, differences_from}
use Rattle.cycle_sim.specs.declared.pair_runs.shown.Shown.{Shown}

-- two lists in order, of which the first stands before the second
pairs_append : {X : Type 0} (R : X → X → Type 0) (xs ys : List X) → AllPairs R xs → AllPairs R ys → ((x y : X) → Contains xs x → Contains ys y → R x y) → AllPairs R (xs ++ ys)
pairs_append R [] ys left right cross = right
pairs_append {X} R (x ∷ xs) ys left right cross =
    AllPairs-cons R x (xs ++ ys) (All-from_each (R x) (xs ++ ys) (λ y h. go y (Contains-append_cases xs ys y h)))
    (pairs_append R xs ys (AllPairs-tail R x xs left) right (λ z y h k. cross z y (Contains-tail x z xs h) k))
  where
    go : (y : X) → Contains xs y ⊎ Contains ys y → R x y
    go y (inl h) = AllPairs-head R x xs left y h
    go y (inr h) = cross x y (Contains-head x xs) h

-- the difference of the pair at a place
pub record IsOf (t : ℕ) (s : Shown) (d : Difference) : Type 0 where
  pub cycle : d.cycle ≡ t
  pub differs : is_difference s ≡ true
  pub left : d.left ≡ s.left
  pub right : d.right ≡ s.right

-- such a difference at one of the places from k on
pub record IsIn (t k : ℕ) (shown : List Shown) (d : Difference) : Type 0 where
  pub place : ℕ
  pub both : Shown
  pub here : slice_get shown place ≡ Some both
  pub pair : d.pair ≡ k + place
  pub is : IsOf t both d

abbrev made : ℕ → ℕ → Shown → Difference
made t k s = record { cycle = t; pair = k; left = s.left; right = s.right }

-- what is listed of a pair and those behind it, where it is a difference or not
abbrev given : ℕ → ℕ → Shown → List Shown → Bool → List Difference
given t k s rest b = cond b (made t k s ∷ differences_in t (k + 1) rest) (differences_in t (k + 1) rest)

one_later : (t k : ℕ) (s : Shown) (shown : List Shown) (d : Difference) → IsIn t (k + 1) shown d → IsIn t k (s ∷ shown) d
one_later t k s shown d h = record { place = suc h.place; both = h.both; here = h.here; pair = let p = h.pair in omega (arith, p); is = h.is }

-- what is listed is a difference at its place
pub listed_is : (t k : ℕ) (shown : List Shown) (d : Difference) → Contains (differences_in t k shown) d → IsIn t k shown d
listed_is t k [] d h = absurd (omega (arith, h.1))
listed_is t k (s ∷ rest) d h = go (is_difference s) refl (λ l. one_later t k s rest d (listed_is t (k + 1) rest d l))
  where
    go : (b : Bool) → is_difference s ≡ b → (Contains (differences_in t (k + 1) rest) d → IsIn t k (s ∷ rest) d) → IsIn t k (s ∷ rest) d
    go true e later = pick (Contains-cases (made t k s) d (differences_in t (k + 1) rest) (subst (λ b. Contains (given t k s rest b) d) e h))
      where
        pick : (made t k s ≡ d) ⊎ Contains (differences_in t (k + 1) rest) d → IsIn t k (s ∷ rest) d
        pick (inl q) = record {
          place = 0;
          both = s;
          here = refl;
          pair = let p = ap (λ (x : Difference). x.pair) q in omega (arith, p);
          is = record { cycle = sym (ap (λ (x : Difference). x.cycle) q); differs = e; left = sym (ap (λ (x : Difference). x.left) q); right = sym (ap (λ (x : Difference). x.right) q) };
        }
        pick (inr l) = later l
    go false e later = later (subst (λ b. Contains (given t k s rest b) d) e h)

-- a difference at a place is listed
pub is_listed : (t k : ℕ) (shown : List Shown) (d : Difference) → IsIn t k shown d → Contains (differences_in t k shown) d
is_listed t k [] d h = absurd (none-some h.both h.here)
is_listed t k (s ∷ rest) d h = go (is_difference s) refl (λ l. is_listed t (k + 1) rest d l) h.place h.here h.pair
  where
    rest_of : (place : ℕ) → slice_get rest place ≡ Some h.both → d.pair ≡ k + suc place → IsIn t (k + 1) rest d
    rest_of place here pair = record { place = place; both = h.both; here = here; pair = omega (arith, pair); is = h.is }

    made_is : s ≡ h.both → d.pair ≡ k → made t k s ≡ d
    made_is same pair = λ i. record {
      cycle = sym h.is.cycle i;
      pair = sym pair i;
      left = (ap (λ (b : Shown). b.left) same ∙ sym h.is.left) i;
      right = (ap (λ (b : Shown). b.right) same ∙ sym h.is.right) i;
    }

    go : (b : Bool) → is_difference s ≡ b → (IsIn t (k + 1) rest d → Contains (differences_in t (k + 1) rest) d) → (place : ℕ) → slice_get (s ∷ rest) place ≡ Some h.both → d.pair ≡ k + place →
        Contains (differences_in t k (s ∷ rest)) d
    go true e later zero here pair =
        subst (λ b. Contains (given t k s rest b) d) (sym e) (subst (λ x. Contains (x ∷ differences_in t (k + 1) rest) d) (sym (made_is (same_Some s h.both here) (omega (arith, pair)))) (Contains-head d (differences_in t (k + 1) rest)))
    go true e later (suc place) here pair = subst (λ b. Contains (given t k s rest b) d) (sym e) (Contains-tail (made t k s) d (differences_in t (k + 1) rest) (later (rest_of place here pair)))
    go false e later zero here pair = absurd (no (sym e ∙ (ap is_difference (same_Some s h.both here) ∙ h.is.differs)))
      where
        no : false ≡ true → ⊥
        no q = cc
    go false e later (suc place) here pair = subst (λ b. Contains (given t k s rest b) d) (sym e) (later (rest_of place here pair))

-- those of one cycle stand in order
listed_in_order : (t k : ℕ) (shown : List Shown) → AllPairs IsBefore (differences_in t k shown)
listed_in_order t k [] = λ i j d l h. absurd (omega (arith, h))
listed_in_order t k (s ∷ rest) = go (is_difference s) refl (listed_in_order t (k + 1) rest)
  where
    before : (d : Difference) → IsIn t (k + 1) rest d → IsBefore (made t k s) d
    before d h = let p = h.pair in inr (sym h.is.cycle, omega (arith, p))

    go : (b : Bool) → is_difference s ≡ b → AllPairs IsBefore (differences_in t (k + 1) rest) → AllPairs IsBefore (differences_in t k (s ∷ rest))
    go true e later =
        subst (λ b. AllPairs IsBefore (given t k s rest b)) (sym e)
        (AllPairs-cons IsBefore (made t k s) (differences_in t (k + 1) rest) (All-from_each (IsBefore (made t k s)) (differences_in t (k + 1) rest) (λ d h. before d (listed_is t (k + 1) rest d h))) later)
    go false e later = subst (λ b. AllPairs IsBefore (given t k s rest b)) (sym e) later

-- a difference in one of the cycles from t on
pub record IsAmong (t : ℕ) (cycles : List (List Shown)) (d : Difference) : Type 0 where
  pub back : ℕ
  pub shown : List Shown
  pub here : slice_get cycles back ≡ Some shown
  pub is : IsIn (t + back) 0 shown d

cycle_later : (t : ℕ) (shown : List Shown) (cycles : List (List Shown)) (d : Difference) → IsAmong (t + 1) cycles d → IsAmong t (shown ∷ cycles) d
cycle_later t shown cycles d h = record { back = suc h.back; shown = h.shown; here = h.here; is = let e : t + 1 + h.back ≡ t + suc h.back = omega arith in subst (λ k. IsIn k 0 h.shown d) e h.is }

pub found_is : (t : ℕ) (cycles : List (List Shown)) (d : Difference) → Contains (differences_from t cycles) d → IsAmong t cycles d
found_is t [] d h = absurd (omega (arith, h.1))
found_is t (shown ∷ cycles) d h = go (Contains-append_cases (differences_in t 0 shown) (differences_from (t + 1) cycles) d h) (λ l. cycle_later t shown cycles d (found_is (t + 1) cycles d l))
  where
    go : Contains (differences_in t 0 shown) d ⊎ Contains (differences_from (t + 1) cycles) d → (Contains (differences_from (t + 1) cycles) d → IsAmong t (shown ∷ cycles) d) → IsAmong t (shown ∷ cycles) d
    go (inl l) later = record { back = 0; shown = shown; here = refl; is = let e : t ≡ t + 0 = omega arith in subst (λ k. IsIn k 0 shown d) e (listed_is t 0 shown d l) }
    go (inr l) later = later l

pub is_found : (t : ℕ) (cycles : List (List Shown)) (d : Difference) → IsAmong t cycles d → Contains (differences_from t cycles) d
is_found t [] d h = absurd (none-some h.shown h.here)
is_found t (shown ∷ cycles) d h = go h.back h.here h.is (λ l. is_found (t + 1) cycles d l)
  where
    go : (back : ℕ) → slice_get (shown ∷ cycles) back ≡ Some h.shown → IsIn (t + back) 0 h.shown d → (IsAmong (t + 1) cycles d → Contains (differences_from (t + 1) cycles) d) → Contains (differences_from t (shown ∷ cycles)) d
    go zero here is later =
        Contains-append_left (differences_in t 0 shown) (differences_from (t + 1) cycles) d
        (is_listed t 0 shown d (let e : t + 0 ≡ t = omega arith in subst (λ (x : List Shown). IsIn t 0 x d) (sym (same_Some shown h.shown here)) (subst (λ k. IsIn k 0 h.shown d) e is)))
    go (suc back) here is later =
        Contains-append_right (differences_in t 0 shown) (differences_from (t + 1) cycles) d
        (later (record { back = back; shown = h.shown; here = here; is = let e : t + suc back ≡ t + 1 + back = omega arith in subst (λ k. IsIn k 0 h.shown d) e is }))

-- all stand by cycle, then by pair
pub found_in_order : (t : ℕ) (cycles : List (List Shown)) → AllPairs IsBefore (differences_from t cycles)
found_in_order t [] = λ i j d l h. absurd (omega (arith, h))
found_in_order t (shown ∷ cycles) =
    pairs_append IsBefore (differences_in t 0 shown) (differences_from (t + 1) cycles) (listed_in_order t 0 shown) (found_in_order (t + 1) cycles) (λ d e h k. before d e (listed_is t 0 shown d h) (found_is (t + 1) cycles e k))
  where
    before : (d e : Difference) → IsIn t 0 shown d → IsAmong (t + 1) cycles e → IsBefore d e
    before d e h k = let x = h.is.cycle in let y = k.is.is.cycle in inl (omega (arith, x, y))

-- one pair more in a cycle
pub in_more : (t k : ℕ) (shown : List Shown) (s : Shown) → differences_in t k (shown ++ s ∷ []) ≡ differences_in t k shown ++ differences_in t (k + length shown) (s ∷ [])
in_more t k [] s = let e : k ≡ k + 0 = omega arith in ap (λ j. differences_in t j (s ∷ [])) e
in_more t k (x ∷ shown) s = go (is_difference x) refl (in_more t (k + 1) shown s ∙ ap (λ j. differences_in t (k + 1) shown ++ differences_in t j (s ∷ [])) (omega arith))
  where
    go : (b : Bool) → is_difference x ≡ b → differences_in t (k + 1) (shown ++ s ∷ []) ≡ differences_in t (k + 1) shown ++ differences_in t (k + suc (length shown)) (s ∷ []) → differences_in t k ((x ∷ shown) ++ s ∷ []) ≡ differences_in t k (x ∷ shown) ++ differences_in t (k + suc (length shown)) (s ∷ [])
    go true e later =
        ap (λ b. cond b (made t k x ∷ differences_in t (k + 1) (shown ++ s ∷ [])) (differences_in t (k + 1) (shown ++ s ∷ []))) e
        ∙ (ap (λ ds. made t k x ∷ ds) later
        ∙ sym (ap (λ b. cond b (made t k x ∷ differences_in t (k + 1) shown) (differences_in t (k + 1) shown) ++ differences_in t (k + suc (length shown)) (s ∷ [])) e))
    go false e later =
        ap (λ b. cond b (made t k x ∷ differences_in t (k + 1) (shown ++ s ∷ [])) (differences_in t (k + 1) (shown ++ s ∷ []))) e
        ∙ (later
        ∙ sym (ap (λ b. cond b (made t k x ∷ differences_in t (k + 1) shown) (differences_in t (k + 1) shown) ++ differences_in t (k + suc (length shown)) (s ∷ [])) e))

-- one cycle more
pub from_more : (t : ℕ) (cycles : List (List Shown)) (shown : List Shown) → differences_from t (cycles ++ shown ∷ []) ≡ differences_from t cycles ++ differences_in (t + length cycles) 0 shown
from_more t [] shown = append-nil (differences_in t 0 shown) ∙ ap (λ k. differences_in k 0 shown) (omega arith)
from_more t (first ∷ cycles) shown =
    ap (λ ds. differences_in t 0 first ++ ds) (from_more (t + 1) cycles shown)
    ∙ (sym (append_assoc (differences_in t 0 first) (differences_from (t + 1) cycles) (differences_in (t + 1 + length cycles) 0 shown))
    ∙ ap (λ k. (differences_in t 0 first ++ differences_from (t + 1) cycles) ++ differences_in k 0 shown) (omega arith))

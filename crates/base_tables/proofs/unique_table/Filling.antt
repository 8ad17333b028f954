-- The number of one key more.
use Rattle.std.proofs.Common.{◌≡◌, ◌≢◌, ℕ, zero, suc, ◌+◌, ◌^◌, ◌<◌, ◌≤◌, ◌⊎◌, inl, inr, List, [], ◌∷◌, ◌++◌, length, take, set, get_or, replicate, slice_get, Some, Contains, refl, sym, ap, subst, ◌∙◌, arith, get_or-set_same, get_or-set_other, length-set}
use Rattle.std.proofs.lemmas.List.Elements.{All-set, All-replicate}
use Rattle.std.proofs.lemmas.List.{length-append, length-take-le, take_more}
use Rattle.std.proofs.lemmas.Option.{slice_get-get_or, none-some, same_Some}
use Rattle.base_tables.proofs.unique_table.Elements.{at_of, of_at}
use Rattle.base_tables.specs.unique_table.Places.{place_in, slot_at, AreTaken, Stands, IsFree, StandOnce, IsTable}

-- an element of a list with one more
push-cases : {X : Type 0} (xs : List X) (x : X) (n : ℕ) (y : X) → slice_get (xs ++ x ∷ []) n ≡ Some y → (slice_get xs n ≡ Some y) ⊎ ((n ≡ length xs) × (y ≡ x))
push-cases [] x zero y h = inr (refl, sym (same_Some x y h))
push-cases [] x (suc n) y h = absurd (none-some y h)
push-cases (z ∷ xs) x zero y h = inl h
push-cases (z ∷ xs) x (suc n) y h = by (push-cases xs x n y h)
  where
    by : (slice_get xs n ≡ Some y) ⊎ ((n ≡ length xs) × (y ≡ x)) → (slice_get xs n ≡ Some y) ⊎ ((suc n ≡ suc (length xs)) × (y ≡ x))
    by (inl e) = inl e
    by (inr (e, f)) = inr (ap suc e, f)

once-push : {K : Type 0} (keys : List K) (key : K) → StandOnce keys → (Contains keys key → ⊥) → StandOnce (keys ++ key ∷ [])
once-push keys key once new n m y at other = by (push-cases keys key n y at) (push-cases keys key m y other)
  where
    by : (slice_get keys n ≡ Some y) ⊎ ((n ≡ length keys) × (y ≡ key)) → (slice_get keys m ≡ Some y) ⊎ ((m ≡ length keys) × (y ≡ key)) → n ≡ m
    by (inl at) (inl other) = once n m y at other
    by (inl at) (inr (e, f)) = absurd (new (of_at keys n key (at ∙ ap Some f)))
    by (inr (e, f)) (inl other) = absurd (new (of_at keys m key (other ∙ ap Some f)))
    by (inr (e, f)) (inr (d, h)) = e ∙ sym d

-- what stands among the first n
among-first : {X : Type 0} (n : ℕ) (xs : List X) (i : ℕ) (x : X) → slice_get (take n xs) i ≡ Some x → (i < n) × (slice_get xs i ≡ Some x)
among-first zero xs i x h = absurd (none-some x h)
among-first (suc n) [] i x h = absurd (none-some x h)
among-first (suc n) (y ∷ xs) zero x h = (omega arith, h)
among-first (suc n) (y ∷ xs) (suc i) x h = let rest = among-first n xs i x h in (omega (arith, rest.0), rest.1)

-- a number that is put at a free place
module _ (slots : List ℕ) (free number : ℕ) (within : free < length slots) (empty : get_or slots free 0 ≡ 0) where
  same_length : length (set slots free (number + 1)) ≡ length slots
  same_length = length-set slots free (number + 1)

  -- what is taken keeps what stands there
  slot-keeps : (at : ℕ → ℕ) (step : ℕ) → slot_at at slots step ≢ 0 → slot_at at (set slots free (number + 1)) step ≡ slot_at at slots step
  slot-keeps at step some =
      ap (λ (n : ℕ). get_or (set slots free (number + 1)) (place_in at n step) 0) same_length
      ∙ get_or-set_other slots free (place_in at (length slots) step) (number + 1) 0 (λ e. some (ap (λ (p : ℕ). get_or slots p 0) e ∙ empty))

  taken-keeps : (at : ℕ → ℕ) (steps : ℕ) → AreTaken at slots steps → AreTaken at (set slots free (number + 1)) steps
  taken-keeps at steps taken = λ step below none. taken step below (sym (slot-keeps at step (taken step below)) ∙ none)

  stands-keeps : (at : ℕ → ℕ) (tries other : ℕ) → Stands at tries slots other → Stands at tries (set slots free (number + 1)) other
  stands-keeps at tries other s = record {
    step = s.step;
    early = s.early;
    inside = subst (λ (n : ℕ). s.step < n) (sym same_length) s.inside;
    here = slot-keeps at s.step (some (slot_at at slots s.step) other s.here) ∙ s.here;
    taken = taken-keeps at s.step s.taken;
  }
    where
      some : (slot n : ℕ) → slot ≡ n + 1 → slot ≢ 0
      some slot n e none = omega (arith, e, none)

  stands-put : (at : ℕ → ℕ) (tries : ℕ) → IsFree at tries slots free → Stands at tries (set slots free (number + 1)) number
  stands-put at tries f = record {
    step = f.step;
    early = f.early;
    inside = subst (λ (n : ℕ). f.step < n) (sym same_length) f.inside;
    here =
        ap (λ (n : ℕ). get_or (set slots free (number + 1)) (place_in at n f.step) 0) same_length ∙ ap (λ (p : ℕ). get_or (set slots free (number + 1)) p 0) (sym f.is)
        ∙ get_or-set_same slots free (number + 1) 0 within;
    taken = taken-keeps at f.step f.taken;
  }

-- the table with one key more
pub table-put : {K : Type 0} (place : K → ℕ → ℕ) (tries : ℕ) (keys : List K) (slots : List ℕ) (key : K) (free : ℕ) → IsTable place tries keys slots → IsFree (place key) tries slots free → (Contains keys key → ⊥) → length keys + 1 < 2 ^ 32
    → IsTable place tries (keys ++ key ∷ []) (set slots free (length keys + 1))
table-put {K} place tries keys slots key free table is new room = record {
  few = omega (arith, longer);
  once = once-push keys key table.once new;
  within = All-set (λ (slot : ℕ). slot ≤ length (keys ++ key ∷ [])) slots free (length keys + 1) (omega (arith, longer)) (λ k d inside. omega (arith, table.within k d inside, longer));
  stand = λ other k at. by other k (push-cases keys key other k at);
}
  where
    longer : length (keys ++ key ∷ []) ≡ length keys + 1
    longer = length-append keys (key ∷ [])

    by : (other : ℕ) (k : K) → (slice_get keys other ≡ Some k) ⊎ ((other ≡ length keys) × (k ≡ key)) → Stands (place k) tries (set slots free (length keys + 1)) other
    by other k (inl at) = stands-keeps slots free (length keys) is.within is.free (place k) tries other (table.stand other k at)
    by other k (inr (e, f)) =
        subst (λ (n : ℕ). Stands (place k) tries (set slots free (length keys + 1)) n) (sym e)
        (subst (λ (x : K). Stands (place x) tries (set slots free (length keys + 1)) (length keys)) (sym f) (stands-put slots free (length keys) is.within is.free (place key) tries is))

-- the table of the first keys with the next
pub table-next : {K : Type 0} (place : K → ℕ → ℕ) (tries : ℕ) (keys : List K) (slots : List ℕ) (number free : ℕ) (d : K) → StandOnce keys → length keys < 2 ^ 32 → number < length keys → IsTable place tries (take number keys) slots
    → IsFree (place (get_or keys number d)) tries slots free → IsTable place tries (take (number + 1) keys) (set slots free (number + 1))
table-next {K} place tries keys slots number free d once few inside table is =
    subst (λ (ks : List K). IsTable place tries ks (set slots free (number + 1))) (sym (take_more keys number d inside))
    (subst (λ (n : ℕ). IsTable place tries (take number keys ++ get_or keys number d ∷ []) (set slots free (n + 1))) size (table-put place tries (take number keys) slots (get_or keys number d) free table is new (omega (arith, size, few, inside))))
  where
    size : length (take number keys) ≡ number
    size = length-take-le number keys (omega arith)

    new : Contains (take number keys) (get_or keys number d) → ⊥
    new there =
        let at = at_of (take number keys) (get_or keys number d) there in
        let before = among-first number keys at.0 (get_or keys number d) at.1 in
        let same : at.0 ≡ number = once at.0 number (get_or keys number d) before.1 (slice_get-get_or keys number d inside) in
        omega (arith, before.0, same)

-- the table without keys
pub table-none : {K : Type 0} (place : K → ℕ → ℕ) (tries : ℕ) (keys : List K) (slots : List ℕ) (len : ℕ) → keys ≡ [] → slots ≡ replicate len 0 → IsTable place tries keys slots
table-none {K} place tries keys slots len none free =
    subst (λ (ks : List K). IsTable place tries ks slots) (sym none) (subst (λ (ss : List ℕ). IsTable {K = K} place tries [] ss) (sym free) (record {
      few = omega arith;
      once = λ i j key at other. absurd (none-some key at);
      within = All-replicate (λ (slot : ℕ). slot ≤ 0) len 0 (omega arith);
      stand = λ number key at. absurd (none-some key at);
    }))

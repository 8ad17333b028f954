-- One number more.
use Rattle.std.proofs.Common.{◌≡◌, ◌≢◌, ◌∙◌, ◌+◌, ◌<◌, ◌≤◌, ◌⊎◌, ℕ, List, [], ◌∷◌, ◌++◌, length, slice_get, Some, sym, ap, subst, arith, inl, inr}
use Rattle.std.specs.List.{Contains}
use Rattle.std.proofs.Math.ListN.{get_or-append, length-append}
use Rattle.std.proofs.Math.Seq.{get_or-append_seam}
use Rattle.std.proofs.lemmas.Option.{slice_get_within, get_or_from_slice_get, slice_get-get_or}
use Rattle.circuit_theory.proofs.Lists.{Contains-head, Contains-tail, Contains-cases, of_at}
use Rattle.circuit_theory.proofs.Sums.{same_or_not}
use Rattle.block_refine.specs.latch_blocks.Blocks.{block_at}
use Rattle.block_refine.specs.latch_blocks.Numbers.{IsNumberedBy}

-- two pairs are one or not
same_pair_or_not : (p q : ℕ × ℕ) → (p ≡ q) ⊎ (p ≢ q)
same_pair_or_not p q = go (same_or_not p.0 q.0) (same_or_not p.1 q.1)
  where
    go : (p.0 ≡ q.0) ⊎ (p.0 ≢ q.0) → (p.1 ≡ q.1) ⊎ (p.1 ≢ q.1) → (p ≡ q) ⊎ (p ≢ q)
    go (inl e) (inl f) = inl (λ i. (e i, f i))
    go (inr n) other = inr (λ e. n (ap (λ r. r.0) e))
    go (inl e) (inr n) = inr (λ e. n (ap (λ r. r.1) e))

-- a pair stands in a list or not
there_or_not : (xs : List (ℕ × ℕ)) (p : ℕ × ℕ) → Contains xs p ⊎ (Contains xs p → ⊥)
there_or_not [] p = inr (λ h. omega (arith, h.1))
there_or_not (x ∷ xs) p = go (same_pair_or_not x p) (there_or_not xs p)
  where
    go : (x ≡ p) ⊎ (x ≢ p) → Contains xs p ⊎ (Contains xs p → ⊥) → Contains (x ∷ xs) p ⊎ (Contains (x ∷ xs) p → ⊥)
    go (inl e) rest = inl (subst (Contains (x ∷ xs)) e (Contains-head x xs))
    go (inr n) (inl h) = inl (Contains-tail x p xs h)
    go (inr n) (inr none) = inr (λ h. elim (Contains-cases x p xs h) [ inl e ↦ n e | inr k ↦ none k ])

length-push : {X : Type 0} (xs : List X) (y : X) → length (xs ++ y ∷ []) ≡ length xs + 1
length-push xs y = length-append xs (y ∷ [])

pub below_or_here : (k n : ℕ) → k < n + 1 → (k < n) ⊎ (k ≡ n)
below_or_here k n h = grind arith

-- what a table has after a pair was put into it, whose number is this
record IsPutAt (table more : List (ℕ × ℕ)) (id : ℕ) : Type 0 where
  stays : (y : ℕ) (q : ℕ × ℕ) → slice_get table y ≡ Some q → slice_get more y ≡ Some q
  below : (y : ℕ) → y < id → y < length table
  met : (y : ℕ) → y < length more → (y < length table) ⊎ (y ≡ id)
  few : length more ≤ length table + 1

at_left : {X : Type 0} (xs ys : List X) (i : ℕ) (x : X) → slice_get xs i ≡ Some x → slice_get (xs ++ ys) i ≡ Some x
at_left xs ys i x at =
    let inside = slice_get_within xs i x at in
    let more : i < length (xs ++ ys) = omega (arith, inside, length-append xs ys) in
    slice_get-get_or (xs ++ ys) i x more ∙ ap Some (get_or-append xs ys x i inside ∙ get_or_from_slice_get xs i x x at)

put_at : (table more : List (ℕ × ℕ)) (id : ℕ) (p : ℕ × ℕ) → slice_get more id ≡ Some p → (Contains table p → more ≡ table) → ((Contains table p → ⊥) → more ≡ table ++ p ∷ []) → IsPutAt table more id
put_at table more id p here known added = go (there_or_not table p)
  where
    go : Contains table p ⊎ (Contains table p → ⊥) → IsPutAt table more id
    go (inl h) =
        let same = known h in
        let inside : id < length table = slice_get_within table id p (ap (λ (t : List (ℕ × ℕ)). slice_get t id) (sym same) ∙ here) in
        record {
          stays = λ y q at. ap (λ (t : List (ℕ × ℕ)). slice_get t y) same ∙ at;
          below = λ y less. omega (arith, inside);
          met = λ y less. inl (omega (arith, ap length same));
          few = omega (arith, ap length same);
        }
    go (inr n) =
        let same = added n in
        let size : length more ≡ length table + 1 = ap length same ∙ length-push table p in
        let inside : id < length more = slice_get_within more id p here in
        let is : id ≡ length table = elim (below_or_here id (length table) (omega (arith, inside, size))) [ inl less ↦ absurd (n (of_at table id p (early less same))) | inr e ↦ e ] in
        record {
          stays = λ y q at. ap (λ (t : List (ℕ × ℕ)). slice_get t y) same ∙ at_left table (p ∷ []) y q at;
          below = λ y less. omega (arith, is);
          met = λ y less. elim (below_or_here y (length table) (omega (arith, less, size))) [ inl k ↦ inl k | inr e ↦ inr (e ∙ sym is) ];
          few = omega (arith, size);
        }
      where
        early : id < length table → more ≡ table ++ p ∷ [] → slice_get table id ≡ Some p
        early less same =
            slice_get-get_or table id p less ∙ ap Some (sym (get_or-append table (p ∷ []) p id less) ∙ get_or_from_slice_get (table ++ p ∷ []) id p p (ap (λ (t : List (ℕ × ℕ)). slice_get t id) (sym same) ∙ here))

pub numbered_next : (key : ℕ → ℕ × ℕ) (table more : List (ℕ × ℕ)) (numbers : List ℕ) (id : ℕ) (p : ℕ × ℕ) → key (length numbers) ≡ p → slice_get more id ≡ Some p → (Contains table p → more ≡ table) → ((Contains table p → ⊥) → more ≡ table ++ p ∷ []) →
    IsNumberedBy key table numbers → IsNumberedBy key more (numbers ++ id ∷ [])
numbered_next key table more numbers id p is here known added old = record {
  keys = λ j less. key_of j (below_or_here j (length numbers) (omega (arith, less, length-push numbers id)));
  met = λ y less. met_of y (put.met y less);
  in_order = λ j y less lower. order_of j y lower (below_or_here j (length numbers) (omega (arith, less, length-push numbers id)));
  few = omega (arith, put.few, old.few, length-push numbers id);
}
  where
    put : IsPutAt table more id
    put = put_at table more id p here known added

    last : block_at (numbers ++ id ∷ []) (length numbers) ≡ id
    last = get_or-append_seam numbers id [] 0

    front : (j : ℕ) → j < length numbers → block_at (numbers ++ id ∷ []) j ≡ block_at numbers j
    front j less = get_or-append numbers (id ∷ []) 0 j less

    key_of : (j : ℕ) → (j < length numbers) ⊎ (j ≡ length numbers) → slice_get more (block_at (numbers ++ id ∷ []) j) ≡ Some (key j)
    key_of j (inl less) = ap (slice_get more) (front j less) ∙ put.stays (block_at numbers j) (key j) (old.keys j less)
    key_of j (inr e) = ap (λ k. slice_get more (block_at (numbers ++ id ∷ []) k)) e ∙ ap (slice_get more) last ∙ here ∙ ap Some (sym is ∙ ap key (sym e))

    early : (y : ℕ) → y < length table → (i : ℕ) × (i < length numbers) × (block_at (numbers ++ id ∷ []) i ≡ y)
    early y less = let one = old.met y less in (one.0, one.1, front one.0 one.1 ∙ one.2)

    met_of : (y : ℕ) → (y < length table) ⊎ (y ≡ id) → (i : ℕ) × (i < length (numbers ++ id ∷ [])) × (block_at (numbers ++ id ∷ []) i ≡ y)
    met_of y (inl less) = let one = early y less in (one.0, omega (arith, one.1, length-push numbers id), one.2)
    met_of y (inr e) = (length numbers, omega (arith, length-push numbers id), last ∙ sym e)

    order_of : (j y : ℕ) → y < block_at (numbers ++ id ∷ []) j → (j < length numbers) ⊎ (j ≡ length numbers) → (i : ℕ) × (i < j) × (block_at (numbers ++ id ∷ []) i ≡ y)
    order_of j y lower (inl less) =
        let one = old.in_order j y less (omega (arith, lower, front j less)) in
        (one.0, one.1, front one.0 (omega (arith, one.1, less)) ∙ one.2)
    order_of j y lower (inr e) =
        let is_last : block_at (numbers ++ id ∷ []) j ≡ id = ap (block_at (numbers ++ id ∷ [])) e ∙ last in
        let one = early y (put.below y (omega (arith, lower, is_last))) in
        (one.0, omega (arith, one.1, e), one.2)

-- without numbers
pub numbered_none : (key : ℕ → ℕ × ℕ) (table : List (ℕ × ℕ)) (numbers : List ℕ) → table ≡ [] → numbers ≡ [] → IsNumberedBy key table numbers
numbered_none key table numbers none empty = record {
  keys = λ j less. absurd (omega (arith, less, ap length empty));
  met = λ y less. absurd (omega (arith, less, ap length none));
  in_order = λ j y less lower. absurd (omega (arith, less, ap length empty));
  few = omega (arith, ap length none);
}

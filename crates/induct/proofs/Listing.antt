-- The latches of each block, one latch after the other.
use Rattle.std.proofs.Common.{◌≡◌, ◌≢◌, ◌∙◌, ◌⊎◌, ◌+◌, ◌<◌, ◌≤◌, ℕ, suc, Bool, true, false, if◌then◌else◌, ◌==◌, List, [], ◌∷◌, ◌++◌, length, get_or, take, refl, sym, ap, subst, arith, inl, inr, add-zero, zero-add}
use Rattle.std.proofs.lemmas.Bool.{eq-eqb, ne_eqb}
use Rattle.std.proofs.lemmas.List.{append-nil, get_or_append_left, get_or_push, get_or-take, length_push, length-take-le, take_more}
use Rattle.std.proofs.lemmas.Option.{get_or_from_slice_get}
use Rattle.sec_base.specs.declared.basics.Tag.{Tag}
use Rattle.block_refine.specs.latch_blocks.Blocks.{block_at, AreInOrder}
use Rattle.induct.specs.Inductions.{tag_at, tags_from, AreMembers, IsPut}
use Rattle.induct.proofs.Putting.{below_or_here, below_or_above, put_own, put_other, put_long, put_places}

-- the latches of each block so far
pub record AreListed (count : ℕ) (blocks : List ℕ) (listed : List (List Tag)) : Type 0 where
  pub at : (k : ℕ) → get_or listed k [] ≡ tags_from count 0 blocks k
  pub enough : (j : ℕ) → j < length blocks → block_at blocks j < length listed
  pub none_empty : (k : ℕ) → k < length listed → (j : ℕ) × (j < length blocks) × (block_at blocks j ≡ k)

pub listed_none : (count : ℕ) → AreListed count [] []
listed_none count = record { at = λ k. refl; enough = λ j l. absurd (omega (arith, l)); none_empty = λ k l. absurd (omega (arith, l)) }

choice_append : (c : Bool) (t : Tag) (xs ys zs : List Tag) → xs ≡ ys ++ zs → (if c then t ∷ xs else xs) ≡ (if c then t ∷ ys else ys) ++ zs
choice_append true t xs ys zs e = ap (λ (l : List Tag). t ∷ l) e
choice_append false t xs ys zs e = e

tags_append : (count place b k : ℕ) (bs : List ℕ) → tags_from count place (bs ++ b ∷ []) k ≡ tags_from count place bs k ++ tags_from count (place + length bs) (b ∷ []) k
tags_append count place b k [] = ap (λ n. tags_from count n (b ∷ []) k) (sym (add-zero place))
tags_append count place b k (x ∷ xs) =
    let next : suc place + length xs ≡ place + suc (length xs) = omega arith in
    choice_append (x == k) (tag_at count place) (tags_from count (suc place) (xs ++ b ∷ []) k) (tags_from count (suc place) xs k) (tags_from count (place + suc (length xs)) (b ∷ []) k)
    (tags_append count (suc place) b k xs ∙ ap (λ n. tags_from count (suc place) xs k ++ tags_from count n (b ∷ []) k) next)

tags_own : (count place b k : ℕ) → b ≡ k → tags_from count place (b ∷ []) k ≡ tag_at count place ∷ []
tags_own count place b k e = let f : Bool → List Tag = λ c. if c then tag_at count place ∷ [] else [] in ap f (eq-eqb b k e)

tags_other : (count place b k : ℕ) → (b ≡ k → ⊥) → tags_from count place (b ∷ []) k ≡ []
tags_other count place b k n = let f : Bool → List Tag = λ c. if c then tag_at count place ∷ [] else [] in ap f (ne_eqb b k n)

same_or_not : (k n : ℕ) → (k ≡ n) ⊎ (k ≢ n)
same_or_not k n = by (below_or_above k n)
  where
    by : (k < n) ⊎ (n ≤ k) → (k ≡ n) ⊎ (k ≢ n)
    by (inl l) = inr (λ e. omega (arith, l, e))
    by (inr g) = over (below_or_above n k)
      where
        over : (n < k) ⊎ (k ≤ n) → (k ≡ n) ⊎ (k ≢ n)
        over (inl l) = inr (λ e. omega (arith, l, e))
        over (inr m) = inl (omega (arith, g, m))

module _ (count : ℕ) (blocks : List ℕ) (b : ℕ) (old new : List (List Tag)) (so : AreListed count blocks old) (low : b ≤ length old) (is : IsPut b (tag_at count (length blocks)) old new) where
  all_tags : (k : ℕ) → tags_from count 0 (blocks ++ b ∷ []) k ≡ tags_from count 0 blocks k ++ tags_from count (length blocks) (b ∷ []) k
  all_tags k = tags_append count 0 b k blocks ∙ ap (λ n. tags_from count 0 blocks k ++ tags_from count n (b ∷ []) k) (zero-add (length blocks))

  own_at : get_or new b [] ≡ tags_from count 0 (blocks ++ b ∷ []) b
  own_at =
      put_own b (tag_at count (length blocks)) old new low is ∙ ap (λ (x : List Tag). x ++ tag_at count (length blocks) ∷ []) (so.at b)
      ∙ ap (λ (x : List Tag). tags_from count 0 blocks b ++ x) (sym (tags_own count (length blocks) b b refl)) ∙ sym (all_tags b)

  other_at : (k : ℕ) → k ≢ b → get_or new k [] ≡ tags_from count 0 (blocks ++ b ∷ []) k
  other_at k n =
      put_other b (tag_at count (length blocks)) old new low is k n ∙ so.at k
      ∙ sym (all_tags k ∙ ap (λ (x : List Tag). tags_from count 0 blocks k ++ x) (tags_other count (length blocks) b k (λ e. n (sym e))) ∙ append-nil (tags_from count 0 blocks k))

  -- one latch more
  pub listed_more : AreListed count (blocks ++ b ∷ []) new
  listed_more = record {
    at = λ k. at k (same_or_not k b);
    enough = λ j l. enough j (below_or_here j (length blocks) (omega (arith, l, length_push blocks b)));
    none_empty = λ k l. none_empty k (put_places b (tag_at count (length blocks)) old new low is k l);
  }
    where
      at : (k : ℕ) → (k ≡ b) ⊎ (k ≢ b) → get_or new k [] ≡ tags_from count 0 (blocks ++ b ∷ []) k
      at k (inl e) = subst (λ n. get_or new n [] ≡ tags_from count 0 (blocks ++ b ∷ []) n) (sym e) own_at
      at k (inr n) = other_at k n

      enough : (j : ℕ) → (j < length blocks) ⊎ (j ≡ length blocks) → block_at (blocks ++ b ∷ []) j < length new
      enough j (inl l) =
          let e = get_or_append_left blocks (b ∷ []) 0 j l in
          let k = so.enough j l in
          let w = put_long b (tag_at count (length blocks)) old new low is in
          omega (arith, e, k, w.0)
      enough j (inr same) =
          let e = get_or_push blocks b 0 j (sym same) in
          let w = put_long b (tag_at count (length blocks)) old new low is in
          omega (arith, e, w.1)

      none_empty : (k : ℕ) → (k < length old) ⊎ (k ≡ b) → (j : ℕ) × (j < length (blocks ++ b ∷ [])) × (block_at (blocks ++ b ∷ []) j ≡ k)
      none_empty k (inl l) = let m = so.none_empty k l in (m.0, omega (arith, m.1, length_push blocks b), get_or_append_left blocks (b ∷ []) 0 m.0 m.1 ∙ m.2)
      none_empty k (inr e) = (length blocks, omega (arith, length_push blocks b), get_or_push blocks b 0 (length blocks) refl ∙ sym e)

module _ (count : ℕ) (blocks : List ℕ) (n : ℕ) (old : List (List Tag)) (order : AreInOrder blocks) (here : n < length blocks) (so : AreListed count (take n blocks) old) where
  front : length (take n blocks) ≡ n
  front = length-take-le n blocks (omega (arith, here))

  -- the next latch is in a block that is there, or in the next one
  pub block_within : block_at blocks n ≤ length old
  block_within = by (below_or_above (length old) (block_at blocks n))
    where
      by : (length old < block_at blocks n) ⊎ (block_at blocks n ≤ length old) → block_at blocks n ≤ length old
      by (inl g) =
          let m = order n (length old) here g in
          let low = so.enough m.0 (omega (arith, m.1, front)) in
          let e = get_or-take n blocks m.0 0 m.1 in
          absurd (omega (arith, low, e, m.2))
      by (inr l) = l

  pub listed_next : (tag : Tag) (new : List (List Tag)) → tag ≡ tag_at count n → IsPut (block_at blocks n) tag old new → AreListed count (take (n + 1) blocks) new
  listed_next tag new e put =
      subst (λ (bs : List ℕ). AreListed count bs new) (sym (take_more blocks n 0 here))
      (listed_more count (take n blocks) (block_at blocks n) old new so block_within (subst (λ (t : Tag). IsPut (block_at blocks n) t old new) (e ∙ ap (tag_at count) (sym front)) put))

pub members_all : (count : ℕ) (blocks : List ℕ) (listed : List (List Tag)) → AreListed count blocks listed → AreMembers count blocks listed
members_all count blocks listed so = record {
  each = λ k block e. sym (get_or_from_slice_get listed k block [] e) ∙ so.at k;
  enough = so.enough;
  none_empty = so.none_empty;
}

-- A latch put into the list of its block.
use Rattle.std.proofs.Common.{◌≡◌, ◌≢◌, ◌∙◌, ◌⊎◌, ◌+◌, ◌<◌, ◌≤◌, ℕ, List, [], ◌∷◌, ◌++◌, length, map, get_or, slice_set, sym, ap, arith, inl, inr}
use Rattle.std.proofs.lemmas.List.{length-map, length-set, map-set, map_push, get_or-map, get_or-set_same, get_or-set_other, get_or_append_left, get_or_push, get_or_past, length_push}
use Rattle.sec_base.specs.declared.basics.Tag.{Tag}
use Rattle.induct.specs.Inductions.{IsPut}

module _ {V : Type 0} (f : V → List Tag) (old new : List V) (list : V) (block : ℕ) (tag : Tag) where
  -- a list more, of this latch
  pub put_next : block ≡ length old → new ≡ old ++ list ∷ [] → f list ≡ tag ∷ [] → IsPut block tag (map f old) (map f new)
  put_next e is one = (λ _. ap (map f) is ∙ map_push f old list ∙ ap (λ (x : List Tag). map f old ++ x ∷ []) one, λ l. absurd (omega (arith, length-map old f, e, l)))

  -- the latch more in a list that is there
  pub put_within : (d : V) → block < length old → new ≡ slice_set old block list → f list ≡ f (get_or old block d) ++ tag ∷ [] → IsPut block tag (map f old) (map f new)
  put_within d l is one = (λ e. absurd (omega (arith, length-map old f, l, e)), λ _. ap (map f) is ∙ map-set f old block list ∙ ap (slice_set (map f old) block) (one ∙ ap (λ (x : List Tag). x ++ tag ∷ []) (sym (get_or-map f old block d [] l))))

pub below_or_here : (k n : ℕ) → k < n + 1 → (k < n) ⊎ (k ≡ n)
below_or_here k n h = grind arith

pub below_or_above : (k n : ℕ) → (k < n) ⊎ (n ≤ k)
below_or_above k n = grind arith

module _ (block : ℕ) (tag : Tag) (old new : List (List Tag)) (low : block ≤ length old) (is : IsPut block tag old new) where
  place : (block < length old) ⊎ (block ≡ length old)
  place = below_or_here block (length old) (omega (arith, low))

  -- its block has the latch more
  pub put_own : get_or new block [] ≡ get_or old block [] ++ tag ∷ []
  put_own = by place
    where
      by : (block < length old) ⊎ (block ≡ length old) → get_or new block [] ≡ get_or old block [] ++ tag ∷ []
      by (inl l) = ap (λ (xs : List (List Tag)). get_or xs block []) (is.1 l) ∙ get_or-set_same old block (get_or old block [] ++ tag ∷ []) [] l
      by (inr e) = ap (λ (xs : List (List Tag)). get_or xs block []) (is.0 e) ∙ get_or_push old (tag ∷ []) [] block (sym e) ∙ ap (λ (x : List Tag). x ++ tag ∷ []) (sym (get_or_past old block [] (omega (arith, e))))

  -- and no other one
  pub put_other : (k : ℕ) → k ≢ block → get_or new k [] ≡ get_or old k []
  put_other k n = by place
    where
      past : block ≡ length old → (k < length old) ⊎ (length old ≤ k) → get_or (old ++ (tag ∷ []) ∷ []) k [] ≡ get_or old k []
      past e (inl l) = get_or_append_left old ((tag ∷ []) ∷ []) [] k l
      past e (inr g) = get_or_past (old ++ (tag ∷ []) ∷ []) k [] (omega (arith, length_push old (tag ∷ []), n, e, g)) ∙ sym (get_or_past old k [] g)

      by : (block < length old) ⊎ (block ≡ length old) → get_or new k [] ≡ get_or old k []
      by (inl l) = ap (λ (xs : List (List Tag)). get_or xs k []) (is.1 l) ∙ get_or-set_other old block k (get_or old block [] ++ tag ∷ []) [] n
      by (inr e) = ap (λ (xs : List (List Tag)). get_or xs k []) (is.0 e) ∙ past e (below_or_above k (length old))

  pub put_long : (length old ≤ length new) × (block < length new)
  put_long = by place
    where
      by : (block < length old) ⊎ (block ≡ length old) → (length old ≤ length new) × (block < length new)
      by (inl l) = let s = ap length (is.1 l) ∙ length-set old block (get_or old block [] ++ tag ∷ []) in (omega (arith, s), omega (arith, s, l))
      by (inr e) = let s = ap length (is.0 e) ∙ length_push old (tag ∷ []) in (omega (arith, s), omega (arith, s, e))

  pub put_places : (k : ℕ) → k < length new → (k < length old) ⊎ (k ≡ block)
  put_places k h = by place
    where
      own : block ≡ length old → (k < length old) ⊎ (k ≡ length old) → (k < length old) ⊎ (k ≡ block)
      own e (inl l) = inl l
      own e (inr same) = inr (same ∙ sym e)

      by : (block < length old) ⊎ (block ≡ length old) → (k < length old) ⊎ (k ≡ block)
      by (inl l) = let s = ap length (is.1 l) ∙ length-set old block (get_or old block [] ++ tag ∷ []) in inl (omega (arith, s, h))
      by (inr e) = let s = ap length (is.0 e) ∙ length_push old (tag ∷ []) in own e (below_or_here k (length old) (omega (arith, s, h)))

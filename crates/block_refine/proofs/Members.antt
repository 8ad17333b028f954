-- The first latch of each block.
use Rattle.std.proofs.Common.{◌≡◌, ◌≢◌, ◌∙◌, ◌+◌, ◌<◌, ◌≤◌, ◌⊎◌, ℕ, List, [], ◌∷◌, ◌++◌, length, sym, ap, subst, arith, inl, inr, length-append}
use Rattle.std.proofs.Math.ListN.{get_or-append}
use Rattle.std.proofs.Math.Seq.{get_or-append_seam}
use Rattle.block_refine.specs.latch_blocks.Blocks.{block_at, AreInOrder}
use Rattle.block_refine.specs.Passes.{AreMembers, IsMemberPut}

-- each block of the latches so far has a latch of its own among these
pub record AreMembersTo (blocks : List ℕ) (count : ℕ) (firsts : List ℕ) : Type 0 where
  pub each : (j : ℕ) → j < count → block_at blocks j < length firsts
  pub inside : (k : ℕ) → k < length firsts → block_at firsts k < count
  pub own : (k : ℕ) → k < length firsts → block_at blocks (block_at firsts k) ≡ k

below_or_here : (k n : ℕ) → k < n + 1 → (k < n) ⊎ (k ≡ n)
below_or_here k n h = grind arith

here_or_not : (k n : ℕ) → (k ≡ n) ⊎ (k ≢ n)
here_or_not k n = by (cases k n)
  where
    cases : (i j : ℕ) → (i < j) ⊎ (j ≤ i)
    cases i j = grind arith

    by : (k < n) ⊎ (n ≤ k) → (k ≡ n) ⊎ (k ≢ n)
    by (inl l) = inr (λ e. omega (arith, l, e))
    by (inr g) = over (cases n k)
      where
        over : (n < k) ⊎ (k ≤ n) → (k ≡ n) ⊎ (k ≢ n)
        over (inl l) = inr (λ e. omega (arith, l, e))
        over (inr m) = inl (omega (arith, g, m))

pub members_none : (blocks : List ℕ) → AreMembersTo blocks 0 []
members_none blocks = record { each = λ j l. absurd (omega arith); inside = λ k l. absurd (omega arith); own = λ k l. absurd (omega arith) }

module _ (blocks : List ℕ) (order : AreInOrder blocks) (j : ℕ) (here : j < length blocks) (firsts new : List ℕ) (so : AreMembersTo blocks j firsts) where
  pushed : block_at blocks j ≡ length firsts → new ≡ firsts ++ j ∷ [] → AreMembersTo blocks (j + 1) new
  pushed e is = record {
    each = λ i l. each i (below_or_here i j l);
    inside = λ k l. inside k (below_or_here k (length firsts) (omega (arith, l, size)));
    own = λ k l. own k (below_or_here k (length firsts) (omega (arith, l, size)));
  }
    where
      size : length new ≡ length firsts + 1
      size = ap length is ∙ length-append firsts (j ∷ [])

      old_at : (k : ℕ) → k < length firsts → block_at new k ≡ block_at firsts k
      old_at k l = ap (λ (xs : List ℕ). block_at xs k) is ∙ get_or-append firsts (j ∷ []) 0 k l

      last_at : block_at new (length firsts) ≡ j
      last_at = ap (λ (xs : List ℕ). block_at xs (length firsts)) is ∙ get_or-append_seam firsts j [] 0

      each : (i : ℕ) → (i < j) ⊎ (i ≡ j) → block_at blocks i < length new
      each i (inl l) = let low = so.each i l in omega (arith, low, size)
      each i (inr same) = let at = ap (block_at blocks) same in omega (arith, at, e, size)

      inside : (k : ℕ) → (k < length firsts) ⊎ (k ≡ length firsts) → block_at new k < j + 1
      inside k (inl l) = let low = so.inside k l in omega (arith, low, old_at k l)
      inside k (inr same) = let at = ap (block_at new) same in omega (arith, at, last_at)

      own : (k : ℕ) → (k < length firsts) ⊎ (k ≡ length firsts) → block_at blocks (block_at new k) ≡ k
      own k (inl l) = ap (block_at blocks) (old_at k l) ∙ so.own k l
      own k (inr same) = ap (λ i. block_at blocks (block_at new i)) same ∙ ap (block_at blocks) last_at ∙ e ∙ sym same

  kept : block_at blocks j ≢ length firsts → new ≡ firsts → AreMembersTo blocks (j + 1) new
  kept apart is = record {
    each = λ i l. subst (λ (xs : List ℕ). block_at blocks i < length xs) (sym is) (each i (below_or_here i j l));
    inside = λ k l. subst (λ (xs : List ℕ). block_at xs k < j + 1) (sym is) (let low = so.inside k (subst (λ (xs : List ℕ). k < length xs) is l) in omega (arith, low));
    own = λ k l. subst (λ (xs : List ℕ). block_at blocks (block_at xs k) ≡ k) (sym is) (so.own k (subst (λ (xs : List ℕ). k < length xs) is l));
  }
    where
      cases : (m n : ℕ) → (m < n) ⊎ (n ≤ m)
      cases m n = grind arith

      known : (block_at blocks j < length firsts) ⊎ (length firsts ≤ block_at blocks j) → block_at blocks j < length firsts
      known (inl l) = l
      known (inr g) = high (here_or_not (block_at blocks j) (length firsts))
        where
          high : (block_at blocks j ≡ length firsts) ⊎ (block_at blocks j ≢ length firsts) → block_at blocks j < length firsts
          high (inl e) = absurd (apart e)
          high (inr n) = above (cases (length firsts) (block_at blocks j))
            where
              above : (length firsts < block_at blocks j) ⊎ (block_at blocks j ≤ length firsts) → block_at blocks j < length firsts
              above (inl l) =
                  let m = order j (length firsts) here l in
                  let low = so.each m.0 m.1 in
                  absurd (omega (arith, low, m.2))
              above (inr k) = absurd (apart (omega (arith, g, k)))

      each : (i : ℕ) → (i < j) ⊎ (i ≡ j) → block_at blocks i < length firsts
      each i (inl l) = so.each i l
      each i (inr same) = subst (λ m. block_at blocks m < length firsts) (sym same) (known (cases (block_at blocks j) (length firsts)))

  pub members_more : IsMemberPut (block_at blocks j) j firsts new → AreMembersTo blocks (j + 1) new
  members_more put = by (here_or_not (block_at blocks j) (length firsts))
    where
      by : (block_at blocks j ≡ length firsts) ⊎ (block_at blocks j ≢ length firsts) → AreMembersTo blocks (j + 1) new
      by (inl e) = pushed e (put.0 e)
      by (inr n) = kept n (put.1 n)

pub members_all : (blocks : List ℕ) (count : ℕ) (firsts : List ℕ) → count ≡ length blocks → AreMembersTo blocks count firsts → AreMembers blocks firsts
members_all blocks count firsts all so = record {
  each = λ j l. so.each j (omega (arith, all, l));
  inside = λ k l. let low = so.inside k l in omega (arith, low, all);
  own = so.own;
}

-- Merging two lists of numbers, which are in one order.
use Rattle.std.proofs.Common.{◌≡◌, ℕ, zero, suc, ◌+◌, ◌≤◌, List, [], ◌∷◌, ◌++◌, length, drop, slice_get, Some, refl, sym, ◌∙◌, ap, subst, arith, inl, inr, add-one, append_assoc, append-nil}
use Rattle.std.specs.Prelude.{◌⊎◌}
use Rattle.std.specs.List.{AllPairs, Contains}
use Rattle.std.proofs.lemmas.List.Kept.{AllPairs-cons}
use Rattle.std.proofs.lemmas.Option.{slice_get_within, same_Some}
use Rattle.circuit_theory.proofs.Lists.{Contains-head, Contains-tail, Contains-cases, All-from_each}
use Rattle.circuit_theory.proofs.Sums.{AllPairs-head, AllPairs-tail}
use Rattle.aig.specs.Merged.{GoesOn, IsMergeBy}

-- what is behind a place is in order too
pub pairs_drop : {X : Type 0} (R : X → X → Type 0) (n : ℕ) (xs : List X) → AllPairs R xs → AllPairs R (drop n xs)
pairs_drop R zero xs h = h
pairs_drop R (suc n) [] h = h
pairs_drop R (suc n) (x ∷ xs) h = pairs_drop R n xs (AllPairs-tail R x xs h)

-- the element at a place, and what is behind it
pub drop_at : {X : Type 0} (xs : List X) (i : ℕ) (x : X) → slice_get xs i ≡ Some x → drop i xs ≡ x ∷ drop (suc i) xs
drop_at [] i x h = absurd (let l = slice_get_within [] i x h in omega arith)
drop_at {X} (y ∷ xs) zero x h = ap (λ (z : X). z ∷ xs) (same_Some y x h)
drop_at (y ∷ xs) (suc i) x h = drop_at xs i x h

-- whatever merges what is left of both lists goes behind what is merged
abbrev pub Rest : (R : ℕ → ℕ → Type 0) → List ℕ → List ℕ → ℕ → ℕ → List ℕ → Type 0
Rest R left right i j merged = (more : List ℕ) → IsMergeBy R (drop i left) (drop j right) more → IsMergeBy R left right (merged ++ more)

module _ (R : ℕ → ℕ → Type 0) (goes_on : GoesOn R) where
  -- a number that goes before the first of a list goes before each of it
  before_all : (u v : ℕ) (vs : List ℕ) → AllPairs R (v ∷ vs) → R u v → (w : ℕ) → Contains (v ∷ vs) w → R u w
  before_all u v vs ordered first w h =
      elim (Contains-cases v w vs h) [ inl same ↦ subst (R u) same first | inr k ↦ goes_on u v w first (AllPairs-head R v vs ordered w k) ]

  -- the first of the left list goes first
  merge_left : (u : ℕ) (us right more : List ℕ) → AllPairs R (u ∷ us) → ((w : ℕ) → Contains right w → R u w) → IsMergeBy R us right more → IsMergeBy R (u ∷ us) right (u ∷ more)
  merge_left u us right more ordered before m = record {
    ordered = AllPairs-cons R u more (All-from_each (R u) more (λ w h. after w ((m.exactly w).0 h))) m.ordered;
    exactly = λ w. (λ h. forth w (Contains-cases u w more h), λ h. back w h);
  }
    where
      after : (w : ℕ) → Contains us w ⊎ Contains right w → R u w
      after w (inl h) = AllPairs-head R u us ordered w h
      after w (inr h) = before w h

      deeper : (w : ℕ) → Contains us w ⊎ Contains right w → Contains (u ∷ us) w ⊎ Contains right w
      deeper w (inl h) = inl (Contains-tail u w us h)
      deeper w (inr h) = inr h

      forth : (w : ℕ) → (u ≡ w) ⊎ Contains more w → Contains (u ∷ us) w ⊎ Contains right w
      forth w (inl e) = inl (subst (Contains (u ∷ us)) e (Contains-head u us))
      forth w (inr h) = deeper w ((m.exactly w).0 h)

      pick : (w : ℕ) → (u ≡ w) ⊎ Contains us w → Contains (u ∷ more) w
      pick w (inl e) = subst (Contains (u ∷ more)) e (Contains-head u more)
      pick w (inr h) = Contains-tail u w more ((m.exactly w).1 (inl h))

      back : (w : ℕ) → Contains (u ∷ us) w ⊎ Contains right w → Contains (u ∷ more) w
      back w (inl h) = pick w (Contains-cases u w us h)
      back w (inr h) = Contains-tail u w more ((m.exactly w).1 (inr h))

  -- both lists change places
  turned : (left right more : List ℕ) → IsMergeBy R left right more → IsMergeBy R right left more
  turned left right more m = record { ordered = m.ordered; exactly = λ w. (λ h. other ((m.exactly w).0 h), λ h. (m.exactly w).1 (other h)) }
    where
      other : {A B : Type 0} → A ⊎ B → B ⊎ A
      other (inl a) = inr a
      other (inr b) = inl b

  -- both begin with one number
  merge_both : (u : ℕ) (us vs more : List ℕ) → AllPairs R (u ∷ us) → AllPairs R (u ∷ vs) → IsMergeBy R us vs more → IsMergeBy R (u ∷ us) (u ∷ vs) (u ∷ more)
  merge_both u us vs more left right m =
      let one = merge_left u us vs more left (λ w h. AllPairs-head R u vs right w h) m in
      record {
        ordered = one.ordered;
        exactly = λ w. (λ h. deeper w ((one.exactly w).0 h), λ h. back w h);
      }
    where
      deeper : (w : ℕ) → Contains (u ∷ us) w ⊎ Contains vs w → Contains (u ∷ us) w ⊎ Contains (u ∷ vs) w
      deeper w (inl h) = inl h
      deeper w (inr h) = inr (Contains-tail u w vs h)

      pick : (w : ℕ) (xs : List ℕ) → (Contains xs w → Contains more w) → (u ≡ w) ⊎ Contains xs w → Contains (u ∷ more) w
      pick w xs to (inl e) = subst (Contains (u ∷ more)) e (Contains-head u more)
      pick w xs to (inr h) = Contains-tail u w more (to h)

      back : (w : ℕ) → Contains (u ∷ us) w ⊎ Contains (u ∷ vs) w → Contains (u ∷ more) w
      back w (inl h) = pick w us (λ k. (m.exactly w).1 (inl k)) (Contains-cases u w us h)
      back w (inr h) = pick w vs (λ k. (m.exactly w).1 (inr k)) (Contains-cases u w vs h)

  nothing_in : (w : ℕ) → Contains [] w → ⊥
  nothing_in w h = omega (arith, h.1)

  -- one list is done
  merge_rest : (left : List ℕ) → AllPairs R left → IsMergeBy R left [] left
  merge_rest left ordered = record { ordered = ordered; exactly = λ w. (λ h. inl h, λ h. only w h) }
    where
      only : (w : ℕ) → Contains left w ⊎ Contains [] w → Contains left w
      only w (inl h) = h
      only w (inr h) = absurd (nothing_in w h)

  module _ (left right : List ℕ) (left_ordered : AllPairs R left) (right_ordered : AllPairs R right) where
    left_at : (i u : ℕ) → slice_get left i ≡ Some u → AllPairs R (u ∷ drop (suc i) left)
    left_at i u at = subst (AllPairs R) (drop_at left i u at) (pairs_drop R i left left_ordered)

    right_at : (j v : ℕ) → slice_get right j ≡ Some v → AllPairs R (v ∷ drop (suc j) right)
    right_at j v at = subst (AllPairs R) (drop_at right j v at) (pairs_drop R j right right_ordered)

    -- with one number more
    put_behind : (merged more : List ℕ) (u : ℕ) → IsMergeBy R left right (merged ++ u ∷ more) → IsMergeBy R left right ((merged ++ u ∷ []) ++ more)
    put_behind merged more u m = subst (IsMergeBy R left right) (sym (append_assoc merged (u ∷ []) more)) m

    pub rest_less : (i j u v : ℕ) (merged : List ℕ) → slice_get left i ≡ Some u → slice_get right j ≡ Some v → R u v → Rest R left right i j merged → Rest R left right (i + 1) j (merged ++ u ∷ [])
    rest_less i j u v merged at_left at_right before rest more m =
        put_behind merged more u
        (rest (u ∷ more)
        (subst (λ (xs : List ℕ). IsMergeBy R xs (drop j right) (u ∷ more)) (sym (drop_at left i u at_left))
        (merge_left u (drop (suc i) left) (drop j right) more (left_at i u at_left) after (subst (λ k. IsMergeBy R (drop k left) (drop j right) more) (add-one i) m))))
      where
        after : (w : ℕ) → Contains (drop j right) w → R u w
        after w h = before_all u v (drop (suc j) right) (right_at j v at_right) before w (subst (λ (xs : List ℕ). Contains xs w) (drop_at right j v at_right) h)

    pub rest_greater : (i j u v : ℕ) (merged : List ℕ) → slice_get left i ≡ Some u → slice_get right j ≡ Some v → R v u → Rest R left right i j merged → Rest R left right i (j + 1) (merged ++ v ∷ [])
    rest_greater i j u v merged at_left at_right before rest more m =
        put_behind merged more v
        (rest (v ∷ more)
        (subst (λ (xs : List ℕ). IsMergeBy R (drop i left) xs (v ∷ more)) (sym (drop_at right j v at_right))
        (turned (v ∷ drop (suc j) right) (drop i left) (v ∷ more)
        (merge_left v (drop (suc j) right) (drop i left) more (right_at j v at_right) after
        (turned (drop i left) (drop (suc j) right) more (subst (λ k. IsMergeBy R (drop i left) (drop k right) more) (add-one j) m))))))
      where
        after : (w : ℕ) → Contains (drop i left) w → R v w
        after w h = before_all v u (drop (suc i) left) (left_at i u at_left) before w (subst (λ (xs : List ℕ). Contains xs w) (drop_at left i u at_left) h)

    pub rest_equal : (i j u v : ℕ) (merged : List ℕ) → slice_get left i ≡ Some u → slice_get right j ≡ Some v → u ≡ v → Rest R left right i j merged → Rest R left right (i + 1) (j + 1) (merged ++ u ∷ [])
    rest_equal i j u v merged at_left at_right same rest more m =
        let here : slice_get right j ≡ Some u = at_right ∙ ap Some (sym same) in
        put_behind merged more u
        (rest (u ∷ more)
        (subst (λ (xs : List ℕ). IsMergeBy R xs (drop j right) (u ∷ more)) (sym (drop_at left i u at_left))
        (subst (λ (xs : List ℕ). IsMergeBy R (u ∷ drop (suc i) left) xs (u ∷ more)) (sym (drop_at right j u here))
        (merge_both u (drop (suc i) left) (drop (suc j) right) more (left_at i u at_left) (right_at j u here)
        (subst (λ k. IsMergeBy R (drop k left) (drop (suc j) right) more) (add-one i) (subst (λ k. IsMergeBy R (drop (i + 1) left) (drop k right) more) (add-one j) m))))))

    past : {X : Type 0} (xs : List X) (n : ℕ) → length xs ≤ n → drop n xs ≡ []
    past [] zero h = refl
    past [] (suc n) h = refl
    past (x ∷ xs) zero h = absurd (omega arith)
    past (x ∷ xs) (suc n) h = past xs n (omega arith)

    -- one of both lists is done, and the rest of the other goes behind
    pub rest_done : (i j : ℕ) (merged : List ℕ) → (length left ≤ i) ⊎ (length right ≤ j) → Rest R left right i j merged → IsMergeBy R left right ((merged ++ drop i left) ++ drop j right)
    rest_done i j merged (inl h) rest =
        subst (IsMergeBy R left right) (ap (λ (xs : List ℕ). xs ++ drop j right) (sym (append-nil merged) ∙ ap (λ (xs : List ℕ). merged ++ xs) (sym (past left i h))))
        (rest (drop j right)
        (subst (λ (xs : List ℕ). IsMergeBy R xs (drop j right) (drop j right)) (sym (past left i h))
        (turned (drop j right) [] (drop j right) (merge_rest (drop j right) (pairs_drop R j right right_ordered)))))
    rest_done i j merged (inr h) rest =
        subst (IsMergeBy R left right) (sym (append-nil (merged ++ drop i left)) ∙ ap (λ (xs : List ℕ). (merged ++ drop i left) ++ xs) (sym (past right j h)))
        (rest (drop i left)
        (subst (λ (xs : List ℕ). IsMergeBy R (drop i left) xs (drop i left)) (sym (past right j h))
        (merge_rest (drop i left) (pairs_drop R i left left_ordered))))

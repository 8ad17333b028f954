-- The turns of places, and their order.
use Rattle.std.proofs.Common.{◌≡◌, ◌≢◌, ◌∙◌, ◌+◌, ◌<◌, ◌≤◌, ◌==◌, ℕ, Bool, true, false, true≢false, List, [], ◌∷◌, ◌++◌, length, map, get_or, slice_get, Option, Some, None, refl, sym, subst, arith, inl, inr}
use Rattle.std.specs.Prelude.{◌⊎◌, IsSorted, IsPermutation, Contains}
use Rattle.std.specs.List.{AllPairs}
use Rattle.std.specs.Cmp.{IsStrictWeakOrder}
use Rattle.std.specs.declared.cmp.Ordering.{Ordering}
use Rattle.std.specs.declared.cmp.Ordering.TheVariants.{Less, Equal, Greater}
use Rattle.std.specs.Ordering.{is_lt, nat_cmp, ordering_then, MatchOrdering}
use Rattle.std.proofs.lemmas.Bool.{cases_lt}
use Rattle.std.proofs.lemmas.Bool.Decides.{Decides-eqb}
use Rattle.std.proofs.lemmas.Cmp.{ranked, then_total, on_total, nat_cmp_total}
use Rattle.std.proofs.lemmas.List.Elements.{Contains-append_cases, Contains-append_left, Contains-append_right}
use Rattle.std.proofs.lemmas.List.Quantifiers.{all_pairs_push}
use Rattle.std.proofs.lemmas.List.Sorted.{IsPermutation-sym, IsPermutation-map, Contains-permutation, sorted_far, ranks_by}
use Rattle.std.proofs.lemmas.Map.Keys.{IsDistinct-IsPermutation}
use Rattle.std.proofs.lemmas.Map.Made.{AllPairs-from_IsDistinct, IsDistinct-from_AllPairs}
use Rattle.std.proofs.lemmas.Option.{get_or_from_slice_get, slice_get_within, slice_get-get_or}
use Rattle.circuit_theory.proofs.Lists.{Contains-head, only, of_at}
use Rattle.flat_net.proofs.Places.{one_at}
use Rattle.class_search.specs.declared.event_order.turns.Turn.{Turn}
use Rattle.class_search.specs.event_order.Turns.{TurnBefore, AreTurns}
use Rattle.class_search.proofs.event_order.Pairs.{pair_at, pairs_of, pairs_mapped, mapped_pair}

-- the turns of the first places
pub record TurnsUpTo (depths : List (Option ℕ)) (count : ℕ) (turns : List Turn) : Type 0 where
  pub each : (t : Turn) → Contains turns t → (t.number < count) × (slice_get depths t.number ≡ Some (Some t.depth))
  pub all : (n d : ℕ) → n < count → slice_get depths n ≡ Some (Some d) → Contains turns (record { depth = d; number = n })
  pub rising : AllPairs (λ x y. x.number < y.number) turns

pub no_turns : (depths : List (Option ℕ)) (turns : List Turn) → turns ≡ [] → TurnsUpTo depths 0 turns
no_turns depths turns e = subst (TurnsUpTo depths 0) (sym e) (record { each = λ t h. absurd (omega (arith, h.1)); all = λ n d below. absurd (omega arith); rising = λ i j d below within. absurd (omega arith) })

pub turn_more : (depths : List (Option ℕ)) (count d : ℕ) (turns new : List Turn) → TurnsUpTo depths count turns → slice_get depths count ≡ Some (Some d) → new ≡ turns ++ record { depth = d; number = count } ∷ [] → TurnsUpTo depths (count + 1) new
turn_more depths count d turns new so here pushed = subst (TurnsUpTo depths (count + 1)) (sym pushed) (record { each = each; all = all; rising = rising })
  where
    each : (t : Turn) → Contains (turns ++ record { depth = d; number = count } ∷ []) t → (t.number < count + 1) × (slice_get depths t.number ≡ Some (Some t.depth))
    each t h = go (Contains-append_cases turns (record { depth = d; number = count } ∷ []) t h)
      where
        go : Contains turns t ⊎ Contains (record { depth = d; number = count } ∷ []) t → (t.number < count + 1) × (slice_get depths t.number ≡ Some (Some t.depth))
        go (inl k) = let x = so.each t k in (omega (arith, x.0), x.1)
        go (inr k) = subst (λ (z : Turn). (z.number < count + 1) × (slice_get depths z.number ≡ Some (Some z.depth))) (only (record { depth = d; number = count }) t k) (omega arith, here)

    all : (n e : ℕ) → n < count + 1 → slice_get depths n ≡ Some (Some e) → Contains (turns ++ record { depth = d; number = count } ∷ []) (record { depth = e; number = n })
    all n e below at = go (cases_lt n count)
      where
        go : (n < count) ⊎ (count ≤ n) → Contains (turns ++ record { depth = d; number = count } ∷ []) (record { depth = e; number = n })
        go (inl l) = Contains-append_left turns (record { depth = d; number = count } ∷ []) (record { depth = e; number = n }) (so.all n e l at)
        go (inr l) =
            let same : n ≡ count = omega arith in
            let depth : d ≡ e = inside (one_at depths count (Some d) (Some e) here (subst (λ (k : ℕ). slice_get depths k ≡ Some (Some e)) same at)) in
            Contains-append_right turns (record { depth = d; number = count } ∷ []) (record { depth = e; number = n })
            (subst (λ (z : Turn). Contains (record { depth = d; number = count } ∷ []) z) (λ i. record { depth = depth i; number = sym same i }) (Contains-head (record { depth = d; number = count }) []))
          where
            inside : {a b : ℕ} → Some a ≡ Some b → a ≡ b
            inside q = cc

    rising : AllPairs (λ x y. x.number < y.number) (turns ++ record { depth = d; number = count } ∷ [])
    rising = all_pairs_push (λ x y. x.number < y.number) turns (record { depth = d; number = count }) so.rising (λ k z within. (so.each (get_or turns k z) (of_at turns k (get_or turns k z) (slice_get-get_or turns k z within))).0)

pub turn_none : (depths : List (Option ℕ)) (count : ℕ) (turns : List Turn) → TurnsUpTo depths count turns → slice_get depths count ≡ Some None → TurnsUpTo depths (count + 1) turns
turn_none depths count turns so here = record {
  each = λ t h. let x = so.each t h in (omega (arith, x.0), x.1);
  all = λ n d below at. go n d below at (cases_lt n count);
  rising = so.rising;
}
  where
    different : {d : ℕ} → ◌≡◌ {A = Option (Option ℕ)} (Some None) (Some (Some d)) → ⊥
    different q = cc

    go : (n d : ℕ) → n < count + 1 → slice_get depths n ≡ Some (Some d) → (n < count) ⊎ (count ≤ n) → Contains turns (record { depth = d; number = n })
    go n d below at (inl l) = so.all n d l at
    go n d below at (inr l) = let same : n ≡ count = omega arith in absurd (different (sym here ∙ subst (λ (k : ℕ). slice_get depths k ≡ Some (Some d)) same at))

-- the order of turns by which a sort goes
abbrev pub turn_cmp : Turn → Turn → Ordering
turn_cmp x y = ordering_then (nat_cmp x.depth y.depth) (nat_cmp x.number y.number)

turn_order : IsStrictWeakOrder (λ x y. is_lt (turn_cmp x y))
turn_order = ranks_by (then_total (on_total (λ (t : Turn). t.depth) nat_cmp_total) (on_total (λ (t : Turn). t.number) nat_cmp_total)) (λ t. t)

-- what isn't behind, and isn't at the same place, is before
before_from : (x y : Turn) → is_lt (turn_cmp y x) ≡ false → x.number ≢ y.number → TurnBefore x y
before_from x y h apart = go (nat_cmp y.depth x.depth) (nat_cmp y.number x.number) (ranked y.depth x.depth _ refl) (ranked y.number x.number _ refl) h
  where
    go : (o r : Ordering) → MatchOrdering o (y.depth < x.depth) (y.depth ≡ x.depth) (x.depth < y.depth) → MatchOrdering r (y.number < x.number) (y.number ≡ x.number) (x.number < y.number) → is_lt (ordering_then o r) ≡ false → TurnBefore x y
    go Less r m k e = absurd (true≢false e)
    go Equal Less m k e = absurd (true≢false e)
    go Equal Equal m k e = absurd (apart (sym k))
    go Equal Greater m k e = inr (sym m, k)
    go Greater r m k e = inl m

eqb-swap : (x y : ℕ) → (x == y) ≡ (y == x)
eqb-swap x y = by (x == y) (y == x) refl refl
  where
    by : (b c : Bool) → (x == y) ≡ b → (y == x) ≡ c → b ≡ c
    by true true p q = refl
    by false false p q = refl
    by true false p q = absurd (true≢false (sym ((Decides-eqb y x).1 (sym ((Decides-eqb x y).0 p))) ∙ q))
    by false true p q = absurd (true≢false (sym ((Decides-eqb x y).1 (sym ((Decides-eqb y x).0 q))) ∙ p))

-- numbers that rise go on to differ in another order
still_apart : (turns sorted : List Turn) → IsPermutation turns sorted → AllPairs (λ x y. x.number < y.number) turns → AllPairs (λ m n. m ≢ n) (map (λ (t : Turn). t.number) sorted)
still_apart turns sorted moved rising =
    let first : AllPairs (λ m n. m ≢ n) (map (λ (t : Turn). t.number) turns) = pairs_mapped (λ (t : Turn). t.number) (λ m n. m ≢ n) turns (λ i j x y below at to e. let r : x.number < y.number = pair_at (λ (p q : Turn). p.number < q.number) turns rising i j x y below at to in omega (arith, r, e)) in
    AllPairs-from_IsDistinct Decides-eqb (map (λ (t : Turn). t.number) sorted)
    (IsDistinct-IsPermutation (λ x y. x == y) eqb-swap (map (λ (t : Turn). t.number) turns) (map (λ (t : Turn). t.number) sorted) (IsPermutation-map (λ (t : Turn). t.number) turns sorted moved) (IsDistinct-from_AllPairs Decides-eqb (map (λ (t : Turn). t.number) turns) first))

pub turns_sorted : (depths : List (Option ℕ)) (count : ℕ) (turns sorted : List Turn) → length depths ≤ count → TurnsUpTo depths count turns → IsPermutation turns sorted → IsSorted turn_cmp sorted → AreTurns depths sorted
turns_sorted depths count turns sorted whole so moved up = record {
  each = λ t h. (so.each t (Contains-permutation sorted turns t (IsPermutation-sym turns sorted moved) h)).1;
  all = λ n d at. Contains-permutation turns sorted (record { depth = d; number = n }) moved (so.all n d (let w = slice_get_within depths n (Some d) at in omega (arith, w, whole)) at);
  in_order = pairs_of TurnBefore sorted (λ i j x y below at to.
      before_from x y (behind i j x y below at to) (mapped_pair (λ (t : Turn). t.number) (λ m n. m ≢ n) sorted (still_apart turns sorted moved so.rising) i j x y below at to));
}
  where
    behind : (i j : ℕ) (x y : Turn) → i < j → slice_get sorted i ≡ Some x → slice_get sorted j ≡ Some y → is_lt (turn_cmp y x) ≡ false
    behind i j x y below at to =
        let far = sorted_far (λ p q. is_lt (turn_cmp p q)) turn_order sorted up i j x (omega arith) (slice_get_within sorted j y to) in
        subst (λ (z : Turn). is_lt (turn_cmp y z) ≡ false) (get_or_from_slice_get sorted i x x at) (subst (λ (z : Turn). is_lt (turn_cmp z (get_or sorted i x)) ≡ false) (get_or_from_slice_get sorted j y x to) far)

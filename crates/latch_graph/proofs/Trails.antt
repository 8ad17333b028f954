-- How a trail of latches goes on, and the round at its end.
use Rattle.std.proofs.Common.{◌≡◌, ◌≢◌, ℕ, zero, suc, ◌+◌, ◌-◌, ◌<◌, ◌≤◌, Bool, true, false, List, [], ◌∷◌, ◌++◌, length, drop, Option, Some, refl, sym, ◌∙◌, ap, subst, arith, inl, inr, ◌==◌, true≢false}
use Rattle.std.specs.Prelude.{◌⊎◌, slice_get, if◌then◌else◌}
use Rattle.std.proofs.Math.ListN.{set}
use Rattle.std.proofs.lemmas.List.{length-set, length-drop}
use Rattle.std.proofs.lemmas.Option.{slice_get_within}
use Rattle.signal_graph.specs.flat_net.LatchAt.{LatchAt}
use Rattle.signal_graph.proofs.flat_net.Places.{one_at}
use Rattle.signal_graph.proofs.flat_net.Growth.{slice_get-append, slice_get-push, slice_get-push_cases, length-push}
use Rattle.signal_graph.proofs.flat_net.CutNets.{few_distinct}
use Rattle.circuit_theory.specs.Depth.{after_in_round}
use Rattle.circuit_theory.proofs.Sums.{same_or_not}
use Rattle.circuit_theory.proofs.Inputs.{test_same, test_refl}
use Rattle.signal_graph.specs.declared.nodes.Node.{Node}
use Rattle.latch_graph.specs.declared.states.State.{State}
use Rattle.latch_graph.specs.Rounds.{IsEndless, TakesOver, IsTrail, IsRound}
use Rattle.signal_graph.proofs.Lists.{set_same, set_other, set_cases}

true_false : ◌≡◌ {A = Option Bool} (Some true) (Some false) → ⊥
true_false e = cc

-- the latch that comes next goes on the trail
pub trail_more : (nodes : List Node) (latches : List LatchAt) (states : List State) (passed : List Bool) (trail : List ℕ) (at next : ℕ) → IsTrail nodes latches states passed trail at → slice_get passed at ≡ Some false →
    IsEndless latches states next → TakesOver nodes latches at next → IsTrail nodes latches states (set passed at true) (trail ++ at ∷ []) next
trail_more nodes latches states passed trail at next t new ends takes = record {
  size = length-set passed at true ∙ t.size;
  ends = ends;
  on = λ i j h. on i j (slice_get-push_cases trail at i j h);
  off = λ j h. off j (set_cases passed at j true true h);
  distinct = λ i j x h k. distinct i j x (slice_get-push_cases trail at i x h) (slice_get-push_cases trail at j x k);
  edges = λ i j k h l. edges i j k (slice_get-push_cases trail at i j h) (slice_get-push_cases trail at (i + 1) k l);
  last = λ i j e h. last i j e (slice_get-push_cases trail at i j h);
}
  where
    on : (i j : ℕ) → (slice_get trail i ≡ Some j) ⊎ ((i ≡ length trail) × (at ≡ j)) → IsEndless latches states j × (slice_get (set passed at true) j ≡ Some true)
    on i j (inl h) = let x = t.on i j h in (x.0, pick x.1 (same_or_not j at))
      where
        pick : slice_get passed j ≡ Some true → (j ≡ at) ⊎ (j ≢ at) → slice_get (set passed at true) j ≡ Some true
        pick p (inl e) = subst (λ z. slice_get (set passed at true) z ≡ Some true) (sym e) (set_same passed at false true new)
        pick p (inr n) = set_other passed at j true true n p
    on i j (inr h) = (subst (λ z. IsEndless latches states z) h.1 t.ends, subst (λ z. slice_get (set passed at true) z ≡ Some true) h.1 (set_same passed at false true new))

    off : (j : ℕ) → ((j ≡ at) × (true ≡ true)) ⊎ ((j ≢ at) × (slice_get passed j ≡ Some true)) → (i : ℕ) × (slice_get (trail ++ at ∷ []) i ≡ Some j)
    off j (inl h) = (length trail, subst (λ z. slice_get (trail ++ at ∷ []) (length trail) ≡ Some z) (sym h.0) (slice_get-push trail at (length trail) refl))
    off j (inr h) = let x = t.off j h.1 in (x.0, slice_get-append trail (at ∷ []) x.0 j x.1)

    fresh : (i x : ℕ) → slice_get trail i ≡ Some x → at ≡ x → ⊥
    fresh i x h e = true_false (sym (subst (λ z. slice_get passed z ≡ Some true) (sym e) (t.on i x h).1) ∙ new)

    distinct : (i j x : ℕ) → (slice_get trail i ≡ Some x) ⊎ ((i ≡ length trail) × (at ≡ x)) → (slice_get trail j ≡ Some x) ⊎ ((j ≡ length trail) × (at ≡ x)) → i ≡ j
    distinct i j x (inl h) (inl k) = t.distinct i j x h k
    distinct i j x (inl h) (inr k) = absurd (fresh i x h k.1)
    distinct i j x (inr h) (inl k) = absurd (fresh j x k h.1)
    distinct i j x (inr h) (inr k) = h.0 ∙ sym k.0

    edges : (i j k : ℕ) → (slice_get trail i ≡ Some j) ⊎ ((i ≡ length trail) × (at ≡ j)) → (slice_get trail (i + 1) ≡ Some k) ⊎ ((i + 1 ≡ length trail) × (at ≡ k)) → TakesOver nodes latches j k
    edges i j k (inl h) (inl l) = t.edges i j k h l
    edges i j k (inl h) (inr l) = subst (λ z. TakesOver nodes latches j z) l.1 (t.last i j l.0 h)
    edges i j k (inr h) (inl l) = absurd (let m = slice_get_within trail (i + 1) k l in omega (arith, m, h.0))
    edges i j k (inr h) (inr l) = absurd (omega (arith, h.0, l.0))

    last : (i j : ℕ) → i + 1 ≡ length (trail ++ at ∷ []) → (slice_get trail i ≡ Some j) ⊎ ((i ≡ length trail) × (at ≡ j)) → TakesOver nodes latches j next
    last i j e (inl h) = absurd (let m = slice_get_within trail i j h in omega (arith, m, e, length-push trail at))
    last i j e (inr h) = subst (λ z. TakesOver nodes latches z next) h.1 takes

none_in : {X : Type 0} (i : ℕ) (x : X) → slice_get [] i ≡ Some x → ⊥
none_in {X} i x h = let l = slice_get_within [] i x h in omega arith

-- a trail begins with no latch
pub trail_begins : (nodes : List Node) (latches : List LatchAt) (states : List State) (passed : List Bool) (trail : List ℕ) (at : ℕ) → trail ≡ [] → length passed ≡ length latches → IsEndless latches states at →
    ((j : ℕ) (bit : Bool) → slice_get passed j ≡ Some bit → bit ≡ false) → IsTrail nodes latches states passed trail at
trail_begins nodes latches states passed trail at empty size ends none =
    subst (λ z. IsTrail nodes latches states passed z at) (sym empty) (record {
      size = size;
      ends = ends;
      on = λ i j h. absurd (none_in i j h);
      off = λ j h. absurd (true≢false (none j true h));
      distinct = λ i j x h k. absurd (none_in i x h);
      edges = λ i j k h e. absurd (none_in i j h);
      last = λ i j e h. absurd (none_in i j h);
    })

-- a trail is no longer than the list of latches
pub trail_short : (nodes : List Node) (latches : List LatchAt) (states : List State) (passed : List Bool) (trail : List ℕ) (at : ℕ) → IsTrail nodes latches states passed trail at → length trail ≤ length latches
trail_short nodes latches states passed trail at t = few_distinct trail (length latches) t.distinct (λ i s h. (t.on i s h).0.within)

pub after_last : (n i : ℕ) → i + 1 ≡ n → after_in_round n i ≡ 0
after_last n i e = ap (λ (b : Bool). if b then 0 else i + 1) (ap (λ z. (i + 1) == z) (sym e) ∙ test_refl (i + 1))

pub after_next : (n i : ℕ) → (i + 1 ≢ n) → after_in_round n i ≡ i + 1
after_next n i differ = by ((i + 1) == n) refl
  where
    by : (b : Bool) → ((i + 1) == n) ≡ b → after_in_round n i ≡ i + 1
    by true e = absurd (differ (test_same (i + 1) n e))
    by false e = ap (λ (b : Bool). if b then 0 else i + 1) e

pub slice_get-drop : {X : Type 0} (xs : List X) (f i : ℕ) (x : X) → slice_get (drop f xs) i ≡ Some x → slice_get xs (f + i) ≡ Some x
slice_get-drop xs zero i x h = subst (λ z. slice_get xs z ≡ Some x) (let z : i ≡ 0 + i = omega arith in z) h
slice_get-drop [] (suc f) i x h = absurd (let l = slice_get_within [] i x h in omega (arith, l))
slice_get-drop (y ∷ xs) (suc f) i x h = subst (λ z. slice_get (y ∷ xs) z ≡ Some x) (let z : suc (f + i) ≡ suc f + i = omega arith in z) (slice_get-drop xs f i x h)

-- where the trail comes back to a latch, the latches from there on are a round
pub round_closes : (nodes : List Node) (latches : List LatchAt) (states : List State) (passed : List Bool) (trail : List ℕ) (at from : ℕ) → IsTrail nodes latches states passed trail at → slice_get trail from ≡ Some at →
    IsRound nodes latches states (drop from trail)
round_closes nodes latches states passed trail at from t here = record {
  some = omega (arith, inside, long);
  endless = λ i j h. (t.on (from + i) j (slice_get-drop trail from i j h)).0;
  distinct = λ i j x h k. let e = t.distinct (from + i) (from + j) x (slice_get-drop trail from i x h) (slice_get-drop trail from j x k) in omega (arith, e);
  edges = λ i j k h l. edges i j k h l (same_or_not (i + 1) (length (drop from trail)));
}
  where
    inside : from < length trail
    inside = slice_get_within trail from at here

    long : length (drop from trail) ≡ length trail - from
    long = length-drop from trail

    edges : (i j k : ℕ) → slice_get (drop from trail) i ≡ Some j → slice_get (drop from trail) (after_in_round (length (drop from trail)) i) ≡ Some k →
        (i + 1 ≡ length (drop from trail)) ⊎ (i + 1 ≢ length (drop from trail)) → TakesOver nodes latches j k
    edges i j k h l (inl e) =
        let first : slice_get (drop from trail) 0 ≡ Some k = subst (λ z. slice_get (drop from trail) z ≡ Some k) (after_last (length (drop from trail)) i e) l in
        let there : slice_get trail from ≡ Some k = subst (λ z. slice_get trail z ≡ Some k) (let z : from + 0 ≡ from = omega arith in z) (slice_get-drop trail from 0 k first) in
        let end : from + i + 1 ≡ length trail = omega (arith, e, long, inside) in
        subst (λ z. TakesOver nodes latches j z) (one_at trail from at k here there) (t.last (from + i) j end (slice_get-drop trail from i j h))
    edges i j k h l (inr n) =
        let next : slice_get (drop from trail) (i + 1) ≡ Some k = subst (λ z. slice_get (drop from trail) z ≡ Some k) (after_next (length (drop from trail)) i n) l in
        t.edges (from + i) j k (slice_get-drop trail from i j h) (subst (λ z. slice_get trail z ≡ Some k) (let z : from + (i + 1) ≡ from + i + 1 = omega arith in z) (slice_get-drop trail from (i + 1) k next))

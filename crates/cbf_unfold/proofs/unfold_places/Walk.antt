-- The walk over the places that an unfolding visits.
use Rattle.std.proofs.Common.{◌≡◌, ◌∙◌, ◌+◌, ◌-◌, ◌<◌, ◌≤◌, ℕ, List, [], ◌∷◌, length, take, slice_get, Some, refl, sym, ap, subst, arith, inl, inr}
use Rattle.std.specs.Prelude.{◌⊎◌}
use Rattle.std.specs.List.{All, sum_by}
use Rattle.std.proofs.lemmas.List.Elements.{All-nil, All-cons, All-append, All-weaker, All-contains}
use Rattle.std.proofs.lemmas.List.Sums.{sum_by_more}
use Rattle.std.proofs.lemmas.Bool.{cases_lt}
use Rattle.std.proofs.lemmas.Option.{slice_get_within, get_or_from_slice_get}
use Rattle.circuit_theory.proofs.Lists.{All-from_each, at_of}
use Rattle.flat_net.specs.Table.{AreDistinct}
use Rattle.flat_net.proofs.TableLemmas.{slice_get-take}
use Rattle.flat_net.specs.View.{NetView, circuit_of}
use Rattle.flat_net.specs.Sound.{IsSound}
use Rattle.flat_net.proofs.Places.{All-at, one_at}
use Rattle.flat_net.specs.Weights.{weight_at}
use Rattle.cbf_unfold.specs.unfold_places.Places.{Steps}
use Rattle.aig.specs.declared.node.Lit.{Lit}
use Rattle.aig.specs.Adds.{Adds}
use Rattle.cbf_unfold.specs.unfold_places.Reach.{IsThere}
use Rattle.cbf_unfold.specs.unfold_places.Walk.{Comes, AreWalked, IsTooLong}
use Rattle.aig.proofs.Lists.{adds_at, adds_cases, adds_length, adds_take}
use Rattle.cbf_unfold.proofs.unfold_places.Lists.{there_later}
use Rattle.flat_net.proofs.Drivers.{weight_positive}
use Rattle.cbf_unfold.proofs.unfold_places.Steps.{step_within}
use Rattle.cbf_unfold.proofs.unfold_places.Over.{pairs_differ, distinct_front}

-- the walk comes to the place, and its signal is one of the net
abbrev pub IsSeen : NetView → ℕ × ℕ → ℕ × ℕ → Type 0
IsSeen n s p = Comes (circuit_of n) s p × (p.1 < length n.drivers)

-- The walk so far: it came to all places in the table, what the first ones read is in the table or has been met, and these weigh so much.
pub record Met (n : NetView) (memo : List ((ℕ × ℕ) × Lit)) (s : ℕ × ℕ) (cap : ℕ) (keys : List (ℕ × ℕ)) (at weight : ℕ) : Type 0 where
  pub root : IsThere memo keys s
  pub closed : (i : ℕ) (p q : ℕ × ℕ) → i < at → slice_get keys i ≡ Some p → Steps (circuit_of n) p q → IsThere memo keys q
  pub seen : All (IsSeen n s) keys
  pub late : (i : ℕ) (p : ℕ × ℕ) → slice_get keys i ≡ Some p → s.0 ≤ p.0 + i
  pub counted : sum_by (λ p. weight_at n p.1) (take at keys) ≡ weight
  pub few : length keys ≤ 1 + weight
  pub passed : at ≤ weight
  pub small : weight ≤ cap

-- so it comes to what is read there
pub seen_step : (n : NetView) → IsSound n → (s p q : ℕ × ℕ) → IsSeen n s p → Steps (circuit_of n) p q → IsSeen n s q
seen_step n sound s p q seen steps = (Comes.reads seen.0 steps, step_within n sound p q steps seen.1)

step_late : (n : NetView) (p q : ℕ × ℕ) → Steps (circuit_of n) p q → p.0 ≤ q.0 + 1
step_late n p q (inl h) = omega (arith, h.0)
step_late n p q (inr h) = omega (arith, h.0)

-- the signal alone, or nothing where it has been met
pub met_first : (n : NetView) (memo : List ((ℕ × ℕ) × Lit)) (s : ℕ × ℕ) (cap : ℕ) (keys : List (ℕ × ℕ)) → s.1 < length n.drivers → IsThere memo keys s → (keys ≡ []) ⊎ (keys ≡ s ∷ []) → Met n memo s cap keys 0 0
met_first n memo s cap keys inside there (inl is) = subst (λ k. IsThere memo k s → Met n memo s cap k 0 0) (sym is) (λ root. record {
  root = root;
  closed = λ i p q h at steps. absurd (omega (arith, h));
  seen = All-nil (IsSeen n s);
  late = λ i p at. let k = slice_get_within [] i p at in absurd (omega (arith, k));
  counted = refl;
  few = omega arith;
  passed = omega arith;
  small = omega arith;
}) there
met_first n memo s cap keys inside there (inr is) = subst (λ k. IsThere memo k s → Met n memo s cap k 0 0) (sym is) (λ root. record {
  root = root;
  closed = λ i p q h at steps. absurd (omega (arith, h));
  seen = All-cons (IsSeen n s) s [] (Comes.itself, inside) (All-nil (IsSeen n s));
  late = λ i p at.
      let k = slice_get_within (s ∷ []) i p at in
      let e : s ≡ p = one_at (s ∷ []) 0 s p refl (subst (λ m. slice_get (s ∷ []) m ≡ Some p) (let z : i ≡ 0 = omega (arith, k) in z) at) in
      omega (arith, ap (λ r. r.0) e);
  counted = refl;
  few = omega arith;
  passed = omega arith;
  small = omega arith;
}) there

-- one place more
pub met_more : (n : NetView) (sound : IsSound n) (memo : List ((ℕ × ℕ) × Lit)) (s : ℕ × ℕ) (cap : ℕ) (keys new : List (ℕ × ℕ)) (at weight w : ℕ) (p : ℕ × ℕ) → Met n memo s cap keys at weight → slice_get keys at ≡ Some p → w ≡ weight_at n p.1 → w ≤ cap - weight →
    Adds (Steps (circuit_of n) p) keys new → ((q : ℕ × ℕ) → Steps (circuit_of n) p q → IsThere memo new q) → length new ≤ length keys + weight_at n p.1 → Met n memo s cap new (at + 1) (weight + w)
met_more n sound memo s cap keys new at weight w p met here is room adds all few =
    let c = circuit_of n in
    let inside = slice_get_within keys at p here in
    let seen = All-at (IsSeen n s) keys at p here met.seen in
    let longer = adds_length (Steps c p) keys new adds in
    let front : take at new ≡ take at keys = adds_take (Steps c p) keys new at adds (omega (arith, inside)) in
    let read = adds_at (Steps c p) keys new at p adds here in
    let more : sum_by (λ q. weight_at n q.1) (take (at + 1) new) ≡ weight + w =
    sum_by_more (λ q. weight_at n q.1) new at p (omega (arith, inside, longer)) ∙ (let first : sum_by (λ q. weight_at n q.1) (take at new) ≡ weight = ap (sum_by (λ q. weight_at n q.1)) front ∙ met.counted in
    let second = ap (λ q. weight_at n q.1) (get_or_from_slice_get new at p p read) in omega (arith, first, second, is)) in
    record {
      root = there_later (Steps c p) memo keys new s adds met.root;
      closed = λ i q r below at_i steps. closes i q r below at_i steps;
      seen = subst (All (IsSeen n s)) (sym adds.is) (All-append (IsSeen n s) keys adds.more met.seen (All-weaker (Steps c p) (IsSeen n s) (λ q steps. seen_step n sound s p q seen steps) adds.more adds.each));
      late = λ i q at_i. lates i q at_i;
      counted = more;
      few = omega (arith, few, met.few, is);
      passed = omega (arith, met.passed, weight_positive n sound p.1, is);
      small = omega (arith, met.small, room);
    }
  where
    closes : (i : ℕ) (q r : ℕ × ℕ) → i < at + 1 → slice_get new i ≡ Some q → Steps (circuit_of n) q r → IsThere memo new r
    closes i q r below at_i steps = go (adds_cases (Steps (circuit_of n) p) keys new i q adds at_i)
      where
        go : (slice_get keys i ≡ Some q) ⊎ ((length keys ≤ i) × Steps (circuit_of n) p q) → IsThere memo new r
        go (inr k) = absurd (let inside = slice_get_within keys at p here in omega (arith, k.0, below, inside))
        go (inl old) = by (cases_lt i at)
          where
            by : (i < at) ⊎ (at ≤ i) → IsThere memo new r
            by (inl before) = there_later (Steps (circuit_of n) p) memo keys new r adds (met.closed i q r before old steps)
            by (inr k) =
                let same : at ≡ i = omega (arith, k, below) in
                let one : q ≡ p = one_at keys at q p (ap (slice_get keys) same ∙ old) here in
                all r (subst (λ z. Steps (circuit_of n) z r) one steps)

    lates : (i : ℕ) (q : ℕ × ℕ) → slice_get new i ≡ Some q → s.0 ≤ q.0 + i
    lates i q at_i = go (adds_cases (Steps (circuit_of n) p) keys new i q adds at_i)
      where
        go : (slice_get keys i ≡ Some q) ⊎ ((length keys ≤ i) × Steps (circuit_of n) p q) → s.0 ≤ q.0 + i
        go (inl old) = met.late i q old
        go (inr k) = let inside = slice_get_within keys at p here in omega (arith, met.late at p here, step_late n p q k.1, k.0, inside)

-- all places
pub met_all : (n : NetView) (memo : List ((ℕ × ℕ) × Lit)) (s : ℕ × ℕ) (cap : ℕ) (keys : List (ℕ × ℕ)) (at weight : ℕ) → Met n memo s cap keys at weight → length keys ≤ at → AreWalked n memo s cap keys
met_all n memo s cap keys at weight met done = record {
  root = met.root;
  closed = λ p q h steps. let i = at_of keys p h in met.closed i.0 p q (let k = slice_get_within keys i.0 p i.1 in omega (arith, k, done)) i.1 steps;
  comes = λ p h. (All-contains (IsSeen n s) keys p met.seen h).0;
  within = All-from_each (λ p. p.1 < length n.drivers) keys (λ p h. (All-contains (IsSeen n s) keys p met.seen h).1);
  late = λ p h. let i = at_of keys p h in let k = slice_get_within keys i.0 p i.1 in omega (arith, met.late i.0 p i.1, k, done, met.passed, met.small);
}

-- the next place is too much
pub met_over : (n : NetView) (memo : List ((ℕ × ℕ) × Lit)) (s : ℕ × ℕ) (cap : ℕ) (keys : List (ℕ × ℕ)) (at weight : ℕ) (p : ℕ × ℕ) → Met n memo s cap keys at weight → AreDistinct keys → slice_get keys at ≡ Some p → cap - weight < weight_at n p.1 →
    IsTooLong n s cap
met_over n memo s cap keys at weight p met distinct here above =
    let inside = slice_get_within keys at p here in
    let first = sum_by_more (λ q. weight_at n q.1) keys at p inside in
    let second = ap (λ q. weight_at n q.1) (get_or_from_slice_get keys at p p here) in
    record {
      places = take (at + 1) keys;
      differ = pairs_differ (take (at + 1) keys) (distinct_front keys (at + 1) distinct);
      comes = λ q h. let i = at_of (take (at + 1) keys) q h in All-at (IsSeen n s) keys i.0 q (slice_get-take (at + 1) keys i.0 q i.1).1 met.seen;
      total = omega (arith, first, second, met.counted, met.small, above);
    }

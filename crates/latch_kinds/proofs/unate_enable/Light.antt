-- The weight of a cone is no more than what all signals of the net count.
use Rattle.std.proofs.Common.{◌≡◌, ◌≢◌, ◌+◌, ◌<◌, ◌≤◌, ℕ, zero, suc, List, [], ◌∷◌, length, map, slice_get, Some, Contains, refl, sym, ap, subst, arith, inl, inr}
use Rattle.std.specs.Prelude.{◌⊎◌}
use Rattle.std.specs.List.{AllPairs, sum_by}
use Rattle.std.proofs.lemmas.List.Kept.{AllPairs-cons}
use Rattle.std.proofs.lemmas.List.Sums.{sum_by-cons}
use Rattle.circuit_theory.specs.Circuit.{Circuit, Reads, Reaches}
use Rattle.circuit_theory.specs.Sizes.{Weighed, WeighsAt, IsConeWeight}
use Rattle.circuit_theory.proofs.Lists.{All-from_each, Contains-head, Contains-tail, Contains-cases, Contains-map, Contains-map_from, at_of}
use Rattle.circuit_theory.proofs.Sums.{same_or_not}
use Rattle.flat_net.specs.declared.signals.Signal.{Signal}
use Rattle.flat_net.specs.declared.parts.Gate.{Gate}
use Rattle.flat_net.specs.declared.parts.Driver.{Driver}
use Rattle.flat_net.specs.declared.parts.Driver.TheVariants as driver
use Rattle.flat_net.specs.View.{NetView, circuit_of}
use Rattle.flat_net.specs.Cut.{latch_at}
use Rattle.flat_net.specs.Sound.{IsSound}
use Rattle.flat_net.proofs.Nets.{some_at}
use Rattle.flat_net.proofs.Exposed.{latch_there}
use Rattle.signal_graph.proofs.inner_cone.latch_cone.Walks.{nothing_at}
use Rattle.flat_net.specs.Weights.{weight_at}
use Rattle.latch_kinds.specs.unate_enable.Cones.{data_of_latch}
use Rattle.latch_kinds.specs.unate_enable.Recovery.{AreConesLight}
use Rattle.circuit_laws.proofs.Counting.{pairs_map}
use Rattle.latch_kinds.proofs.unate_enable.Lists.{sum_by-map}
use Rattle.flat_net.proofs.Drivers.{driven_gate, gate_reads_to, gate_reads_from, no_gate_reads, no_input_gate, reads_lower, weighs}

-- the sum over the first so many numbers
abbrev pub sum_to : (ℕ → ℕ) → ℕ → ℕ
sum_to f zero = 0
sum_to f (suc k) = sum_to f k + f k

pub sum_to-more : (f : ℕ → ℕ) (k : ℕ) → sum_to f (k + 1) ≡ sum_to f k + f k
sum_to-more f k = let e : k + 1 ≡ suc k = omega arith in ap (sum_to f) e

none_there : {X : Type 0} (x : X) → Contains [] x → ⊥
none_there x h = let at = at_of [] x h in nothing_at at.0 x at.1

no_latch_gate : {i j : ℕ} → driver.Latch i ≡ driver.Gate j → ⊥
no_latch_gate e = cc

below_or_same : (s k : ℕ) → s < suc k → (s < k) ⊎ (s ≡ k)
below_or_same s k l = grind arith

-- a way is none, or begins with a reading
way_cases : {c : Circuit ℕ} {p u : ℕ} → Reaches c p u → (p ≡ u) ⊎ ((q : ℕ) × Reads c p q × Reaches c q u)
way_cases Reaches.here = inl refl
way_cases (Reaches.there {q = q} reads rest) = inr (q, reads, rest)

module _ (n : NetView) (sound : IsSound n) where
  -- a way leads from the one signal to the other, or none does
  abbrev IsTold : ℕ → ℕ → Type 0
  IsTold u p = Reaches (circuit_of n) p u ⊎ (Reaches (circuit_of n) p u → ⊥)

  -- a way leads from one of the signals, or from none of them
  abbrev AreTold : ℕ → List Signal → Type 0
  AreTold u fs = ((f : Signal) × Contains fs f × Reaches (circuit_of n) f.0 u) ⊎ ((f : Signal) → Contains fs f → Reaches (circuit_of n) f.0 u → ⊥)

  told_more : (u : ℕ) (f : Signal) (fs : List Signal) → IsTold u f.0 → AreTold u fs → AreTold u (f ∷ fs)
  told_more u f fs (inl way) rest = inl (f, Contains-head f fs, way)
  told_more u f fs (inr none) (inl x) = inl (x.0, Contains-tail f x.0 fs x.1, x.2)
  told_more u f fs (inr none) (inr never) = inr (λ g h way. by g way (Contains-cases f g fs h))
    where
      by : (g : Signal) → Reaches (circuit_of n) g.0 u → (f ≡ g) ⊎ Contains fs g → ⊥
      by g way (inl e) = none (subst (λ (s : Signal). Reaches (circuit_of n) s.0 u) (sym e) way)
      by g way (inr h) = never g h way

  told_all : (u : ℕ) (fs : List Signal) → ((f : Signal) → Contains fs f → IsTold u f.0) → AreTold u fs
  told_all u [] each = inr (λ f h way. none_there f h)
  told_all u (f ∷ fs) each = told_more u f fs (each f (Contains-head f fs)) (told_all u fs (λ g h. each g (Contains-tail f g fs h)))

  -- the same of a signal, by those that it reads
  told_by : (u p : ℕ) → p < length n.drivers → ((q : ℕ) → q < p → IsTold u q) → IsTold u p
  told_by u p within before = by (same_or_not p u) (some_at n.drivers p within)
    where
      source : p ≢ u → (d : Driver) → slice_get n.drivers p ≡ Some d → ((j : ℕ) → d ≡ driver.Gate j → ⊥) → IsTold u p
      source other d drives no_gate = inr (λ way. way_none (way_cases way))
        where
          way_none : (p ≡ u) ⊎ ((q : ℕ) × Reads (circuit_of n) p q × Reaches (circuit_of n) q u) → ⊥
          way_none (inl e) = other e
          way_none (inr x) = no_gate_reads n sound p x.0 d drives no_gate x.1

      gate : p ≢ u → (j : ℕ) → slice_get n.drivers p ≡ Some (driver.Gate j) → IsTold u p
      gate other j drives = of_fanins (told_all u g.0.fanins (λ f h. before f.0 (reads_lower n sound p f.0 (gate_reads_to n sound p j drives g.0 g.1 f h))))
        where
          g : (k : Gate) × (slice_get n.gates j ≡ Some k) × (k.out.0 ≡ p)
          g = driven_gate n sound p j drives

          of_fanins : AreTold u g.0.fanins → IsTold u p
          of_fanins (inl x) = inl (Reaches.there (gate_reads_to n sound p j drives g.0 g.1 x.0 x.1) x.2)
          of_fanins (inr never) = inr (λ way. way_none (way_cases way))
            where
              way_none : (p ≡ u) ⊎ ((q : ℕ) × Reads (circuit_of n) p q × Reaches (circuit_of n) q u) → ⊥
              way_none (inl e) = other e
              way_none (inr x) = let f = gate_reads_from n sound p j drives g.0 g.1 x.0 x.1 in never f.0 f.1 (subst (λ q. Reaches (circuit_of n) q u) (sym f.2) x.2)

      by : (p ≡ u) ⊎ (p ≢ u) → (d : Driver) × (slice_get n.drivers p ≡ Some d) → IsTold u p
      by (inl e) d = inl (subst (λ q. Reaches (circuit_of n) p q) e Reaches.here)
      by (inr other) (driver.Input i, drives) = source other (driver.Input i) drives (λ j e. no_input_gate e)
      by (inr other) (driver.Latch i, drives) = source other (driver.Latch i) drives (λ j e. no_latch_gate e)
      by (inr other) (driver.Gate j, drives) = gate other j drives

  told : (u k p : ℕ) → p < k → p < length n.drivers → IsTold u p
  told u zero p below within = absurd (omega (arith, below))
  told u (suc k) p below within = told_by u p within (λ q lower. told u k q (omega (arith, lower, below)) (omega (arith, lower, within)))

  -- the signals below a number that are reached, each once, with what they count
  record ReachedTo (from k : ℕ) : Type 0 where
    signals : List ℕ
    distinct : AllPairs (λ p q. p ≢ q) signals
    each : (s : ℕ) → Contains signals s → (s < k) × Reaches (circuit_of n) from s
    all : (s : ℕ) → s < k → Reaches (circuit_of n) from s → Contains signals s
    sum : sum_by (weight_at n) signals ≤ sum_to (weight_at n) k

  reached_more : (from k : ℕ) → ReachedTo from k → IsTold k from → ReachedTo from (suc k)
  reached_more from k r (inr never) = record {
    signals = r.signals;
    distinct = r.distinct;
    each = λ s h. let e = r.each s h in (omega (arith, e.0), e.1);
    all = λ s l way. all s way (below_or_same s k l);
    sum = let more : sum_to (weight_at n) (suc k) ≡ sum_to (weight_at n) k + weight_at n k = refl in omega (arith, more, r.sum);
  }
    where
      all : (s : ℕ) → Reaches (circuit_of n) from s → (s < k) ⊎ (s ≡ k) → Contains r.signals s
      all s way (inl less) = r.all s less way
      all s way (inr e) = absurd (never (subst (λ q. Reaches (circuit_of n) from q) e way))
  reached_more from k r (inl way) = record {
    signals = k ∷ r.signals;
    distinct = AllPairs-cons (λ p q. p ≢ q) k r.signals (All-from_each (λ q. k ≢ q) r.signals (λ q h e. let b = (r.each q h).0 in absurd (omega (arith, b, e)))) r.distinct;
    each = λ s h. each s (Contains-cases k s r.signals h);
    all = λ s l reach. all s reach (below_or_same s k l);
    sum = let more : sum_to (weight_at n) (suc k) ≡ sum_to (weight_at n) k + weight_at n k = refl in omega (arith, more, r.sum, sum_by-cons (weight_at n) k r.signals);
  }
    where
      each : (s : ℕ) → (k ≡ s) ⊎ Contains r.signals s → (s < suc k) × Reaches (circuit_of n) from s
      each s (inl e) = (omega (arith, e), subst (λ q. Reaches (circuit_of n) from q) e way)
      each s (inr h) = let x = r.each s h in (omega (arith, x.0), x.1)

      all : (s : ℕ) → Reaches (circuit_of n) from s → (s < k) ⊎ (s ≡ k) → Contains (k ∷ r.signals) s
      all s reach (inl less) = Contains-tail k s r.signals (r.all s less reach)
      all s reach (inr e) = subst (Contains (k ∷ r.signals)) (sym e) (Contains-head k r.signals)

  reached_to : (from : ℕ) → from < length n.drivers → (k : ℕ) → ReachedTo from k
  reached_to from within zero = record {
    signals = [];
    distinct = λ i j d l m. absurd (omega arith);
    each = λ s h. absurd (none_there s h);
    all = λ s l way. absurd (omega (arith, l));
    sum = let none : sum_by (weight_at n) [] ≡ 0 = refl in omega (arith, none);
  }
  reached_to from within (suc k) = reached_more from k (reached_to from within k) (told k (suc from) from (omega arith) within)

  reached_below : {p q : ℕ} → Reaches (circuit_of n) p q → q ≤ p
  reached_below Reaches.here = omega arith
  reached_below {p} (Reaches.there {q = r} reads rest) = omega (arith, reads_lower n sound p r reads, reached_below rest)

  abbrev weighed : ℕ → Weighed ℕ
  weighed s = record { place = s; shift = 0; weight = weight_at n s }

  cone_weighs : (from : ℕ) → from < length n.drivers → (r : ReachedTo from (length n.drivers)) → IsConeWeight (circuit_of n) from (sum_by (weight_at n) r.signals)
  cone_weighs from within r = record {
    places = map weighed r.signals;
    distinct = pairs_map weighed (λ a b. a ≢ b) (λ (x y : Weighed ℕ). x.place ≢ y.place) r.signals (λ a b ha hb differ same. differ same) r.distinct;
    weighed = each;
    met = λ q. (λ h. met _ h.1, λ way. let low = reached_below way in (weight_at n q, Contains-map weighed r.signals q (r.all q (omega (arith, low, within)) way)));
    total = sum_by-map (λ (x : Weighed ℕ). x.weight) weighed r.signals;
  }
    where
      each : (x : Weighed ℕ) → Contains (map weighed r.signals) x → (x.shift ≡ 0) × WeighsAt (circuit_of n) x.place x.weight
      each x h =
          let s = Contains-map_from weighed r.signals x h in
          subst (λ (y : Weighed ℕ). (y.shift ≡ 0) × WeighsAt (circuit_of n) y.place y.weight) s.2 (refl, weighs n sound s.0 (r.each s.0 s.1).0)

      met : (x : Weighed ℕ) → Contains (map weighed r.signals) x → Reaches (circuit_of n) from x.place
      met x h = let s = Contains-map_from weighed r.signals x h in subst (λ (y : Weighed ℕ). Reaches (circuit_of n) from y.place) s.2 (r.each s.0 s.1).1

  -- where all signals are light together, each cone is
  pub cones_light : (total : ℕ) → total ≡ sum_to (weight_at n) (length n.drivers) → total ≤ 2000000 → AreConesLight n
  cones_light total is few j own =
      let within = (sound.latches j (latch_at n j) (latch_there n sound j own)).within in
      let r = reached_to (data_of_latch n j) within (length n.drivers) in
      record { weight = sum_by (weight_at n) r.signals; weight_is = cone_weighs (data_of_latch n j) within r; within = omega (arith, r.sum, is, few) }

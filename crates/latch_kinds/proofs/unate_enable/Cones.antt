-- The cone of a latch, from the signals that are reached.
use Rattle.std.proofs.Common.{◌≡◌, ◌∙◌, ◌<◌, ◌≤◌, ℕ, List, length, map, slice_get, Some, refl, sym, ap, subst, arith, inl, inr}
use Rattle.std.specs.Prelude.{◌⊎◌, ◌≢◌}
use Rattle.std.specs.List.{All, AllPairs, Contains, sum_by}
use Rattle.std.proofs.lemmas.Option.{slice_get_within, get_or_from_slice_get}
use Rattle.std.proofs.lemmas.List.Elements.{All-contains, Contains-append_left, Contains-append_right, Contains-append_cases}
use Rattle.std.proofs.lemmas.List.Kept.{AllPairs-from_increasing}
use Rattle.circuit_theory.specs.Circuit.{Reaches, IsSource, InCone}
use Rattle.circuit_theory.specs.Sizes.{Weighed, WeighsAt, IsConeWeight, IsConeOver}
use Rattle.circuit_theory.proofs.Lists.{All-from_each, Contains-map, Contains-map_from}
use Rattle.circuit_theory.proofs.Sums.{same_or_not}
use Rattle.flat_net.specs.declared.parts.Port.{Port}
use Rattle.flat_net.specs.declared.parts.LatchAt.{LatchAt}
use Rattle.flat_net.specs.declared.parts.Driver.TheVariants as driver
use Rattle.flat_net.specs.View.{NetView, circuit_of}
use Rattle.flat_net.specs.Cut.{latch_at}
use Rattle.flat_net.specs.Sound.{IsSound}
use Rattle.flat_net.proofs.Places.{one_at}
use Rattle.flat_net.proofs.Exposed.{latch_there}
use Rattle.latch_kinds.specs.declared.unate_enable.support.LatchCone.{LatchCone}
use Rattle.flat_net.specs.Weights.{weight_at}
use Rattle.latch_kinds.specs.unate_enable.Walks.{AreReached}
use Rattle.latch_kinds.specs.unate_enable.Among.{AreNumbersAmong, IsInputAt, IsOtherLatchAt}
use Rattle.latch_kinds.specs.unate_enable.Cones.{out_of_latch, data_of_latch, IsInLatchCone, IsConeOfLatch, input_at, no_port, places_of}
use Rattle.latch_kinds.specs.unate_enable.Building.{AreClosed}
use Rattle.circuit_laws.proofs.Counting.{fewer, pairs_map}
use Rattle.latch_kinds.proofs.unate_enable.Lists.{pairs_append, sum_by-map, length_within}
use Rattle.flat_net.proofs.Drivers.{input_source, latch_source, source_drives, weighs, weight_positive, no_input_latch, one_input, one_latch}
use Rattle.latch_kinds.proofs.unate_enable.Walks.{reaches_on}

-- signals of the cone's other members: f0 and f1 are functions of these
pub record ArePlaces (n : NetView) (j : ℕ) (signals places : List ℕ) : Type 0 where
  pub sources : (p : ℕ) → Contains places p → IsSource (circuit_of n) p
  pub others : (p : ℕ) → Contains places p → p ≢ out_of_latch n j
  pub among : (p : ℕ) → Contains places p → Contains signals p
  pub distinct : AllPairs (λ p q. p ≢ q) places

module _ (n : NetView) (sound : IsSound n) (j : ℕ) (signals : List ℕ) (reached : AreReached (circuit_of n) (length n.drivers) (data_of_latch n j) signals) where
  pub cone_from : (inputs latches : List ℕ) → AreNumbersAmong (IsInputAt n) signals inputs → AreNumbersAmong (IsOtherLatchAt n j) signals latches → IsConeOfLatch n j (record { inputs = inputs; latches = latches })
  cone_from inputs latches ins outs = record {
    inputs_increasing = ins.increasing;
    latches_increasing = outs.increasing;
    inputs = λ i. (λ h. input_of i (ins.are.from i h), λ h. ins.are.all h.0.signal.0 i ((reached.exactly h.0.signal.0).1 h.2) (sound.inputs i h.0 h.1).owner);
    latches = λ k. (λ h. latch_of k (outs.are.from k h), λ h. outs.are.all h.1.out.0 k ((reached.exactly h.1.out.0).1 h.3) ((sound.latches k h.1 h.2).owner, h.0));
  }
    where
      input_of : (i : ℕ) → ((s : ℕ) × Contains signals s × IsInputAt n s i) → (port : Port) × (slice_get n.inputs i ≡ Some port) × IsInLatchCone n j port.signal.0
      input_of i (s, h, drives) =
          let p = sound.drivers s (driver.Input i) drives in
          (p.0, p.1, subst (IsInLatchCone n j) (sym p.2) ((reached.exactly s).0 h))

      latch_of : (k : ℕ) → ((s : ℕ) × Contains signals s × IsOtherLatchAt n j s k) → (k ≢ j) × (l : LatchAt) × (slice_get n.latches k ≡ Some l) × IsInLatchCone n j l.out.0
      latch_of k (s, h, (drives, other)) =
          let l = sound.drivers s (driver.Latch k) drives in
          (other, l.0, l.1, subst (IsInLatchCone n j) (sym l.2) ((reached.exactly s).0 h))

  module _ (cone : LatchCone) (is : IsConeOfLatch n j cone) where
    pub inputs_within : All (λ i. i < length n.inputs) cone.inputs
    inputs_within = All-from_each (λ i. i < length n.inputs) cone.inputs (λ i h. let p = (is.inputs i).0 h in slice_get_within n.inputs i p.0 p.1)

    pub latches_within : All (λ k. k < length n.latches) cone.latches
    latches_within = All-from_each (λ k. k < length n.latches) cone.latches (λ k h. let p = (is.latches k).0 h in slice_get_within n.latches k p.1 p.2)

    abbrev input_place : ℕ → ℕ
    input_place i = (input_at n i).signal.0

    abbrev latch_place : ℕ → ℕ
    latch_place k = (latch_at n k).out.0

    input_drives : (i : ℕ) (port : Port) → slice_get n.inputs i ≡ Some port → slice_get n.drivers (input_place i) ≡ Some (driver.Input i)
    input_drives i port at = subst (λ (q : Port). slice_get n.drivers q.signal.0 ≡ Some (driver.Input i)) (sym (get_or_from_slice_get n.inputs i port no_port at)) (sound.inputs i port at).owner

    latch_drives : (k : ℕ) (l : LatchAt) → slice_get n.latches k ≡ Some l → slice_get n.drivers (latch_place k) ≡ Some (driver.Latch k)
    latch_drives k l at = let there = latch_there n sound k (slice_get_within n.latches k l at) in (sound.latches k (latch_at n k) there).owner

    -- what drives each of the places
    place_drives : (p : ℕ) → Contains (places_of n cone) p → ((i : ℕ) × Contains cone.inputs i × (slice_get n.drivers p ≡ Some (driver.Input i)) × Contains signals p) ⊎ ((k : ℕ) × (k ≢ j) × (slice_get n.drivers p ≡ Some (driver.Latch k)) × Contains signals p)
    place_drives p h = by (Contains-append_cases (map input_place cone.inputs) (map latch_place cone.latches) p h)
      where
        by : Contains (map input_place cone.inputs) p ⊎ Contains (map latch_place cone.latches) p →
            ((i : ℕ) × Contains cone.inputs i × (slice_get n.drivers p ≡ Some (driver.Input i)) × Contains signals p) ⊎ ((k : ℕ) × (k ≢ j) × (slice_get n.drivers p ≡ Some (driver.Latch k)) × Contains signals p)
        by (inl m) =
            let f = Contains-map_from input_place cone.inputs p m in
            let port = (is.inputs f.0).0 f.1 in
            let same : port.0.signal.0 ≡ p = ap (λ (q : Port). q.signal.0) (sym (get_or_from_slice_get n.inputs f.0 port.0 no_port port.1)) ∙ f.2 in
            inl (f.0, f.1, subst (λ s. slice_get n.drivers s ≡ Some (driver.Input f.0)) f.2 (input_drives f.0 port.0 port.1), (reached.exactly p).1 (subst (IsInLatchCone n j) same port.2))
        by (inr m) =
            let f = Contains-map_from latch_place cone.latches p m in
            let l = (is.latches f.0).0 f.1 in
            let one : latch_at n f.0 ≡ l.1 = one_at n.latches f.0 (latch_at n f.0) l.1 (latch_there n sound f.0 (slice_get_within n.latches f.0 l.1 l.2)) l.2 in
            let same : l.1.out.0 ≡ p = ap (λ (q : LatchAt). q.out.0) (sym one) ∙ f.2 in
            inr (f.0, l.0, subst (λ s. slice_get n.drivers s ≡ Some (driver.Latch f.0)) f.2 (latch_drives f.0 l.1 l.2), (reached.exactly p).1 (subst (IsInLatchCone n j) same l.3))

    differ_inputs : AllPairs (λ p q. p ≢ q) (map input_place cone.inputs)
    differ_inputs = pairs_map input_place (λ a b. a < b) (λ p q. p ≢ q) cone.inputs
        (λ a b ha hb less same.
        let pa = (is.inputs a).0 ha in
        let pb = (is.inputs b).0 hb in
        let one : a ≡ b = one_input n (input_place b) a b (subst (λ s. slice_get n.drivers s ≡ Some (driver.Input a)) same (input_drives a pa.0 pa.1)) (input_drives b pb.0 pb.1) in
        omega arith)
        (AllPairs-from_increasing cone.inputs is.inputs_increasing)

    differ_latches : AllPairs (λ p q. p ≢ q) (map latch_place cone.latches)
    differ_latches = pairs_map latch_place (λ a b. a < b) (λ p q. p ≢ q) cone.latches
        (λ a b ha hb less same.
        let pa = (is.latches a).0 ha in
        let pb = (is.latches b).0 hb in
        let one : a ≡ b = one_latch n (latch_place b) a b (subst (λ s. slice_get n.drivers s ≡ Some (driver.Latch a)) same (latch_drives a pa.1 pa.2)) (latch_drives b pb.1 pb.2) in
        omega arith)
        (AllPairs-from_increasing cone.latches is.latches_increasing)

    crossed : (p q : ℕ) → Contains (map input_place cone.inputs) p → Contains (map latch_place cone.latches) q → p ≢ q
    crossed p q hp hq same =
        let a = Contains-map_from input_place cone.inputs p hp in
        let b = Contains-map_from latch_place cone.latches q hq in
        let pa = (is.inputs a.0).0 a.1 in
        let pb = (is.latches b.0).0 b.1 in
        no_input_latch (one_driver q
        (subst (λ s. slice_get n.drivers s ≡ Some (driver.Input a.0)) (a.2 ∙ same) (input_drives a.0 pa.0 pa.1))
        (subst (λ s. slice_get n.drivers s ≡ Some (driver.Latch b.0)) b.2 (latch_drives b.0 pb.1 pb.2)))
      where
        one_driver : (s : ℕ) {i k : ℕ} → slice_get n.drivers s ≡ Some (driver.Input i) → slice_get n.drivers s ≡ Some (driver.Latch k) → driver.Input i ≡ driver.Latch k
        one_driver s {i} {k} x y = one_at n.drivers s (driver.Input i) (driver.Latch k) x y

    module _ (own : j < length n.latches) where
      own_drives : slice_get n.drivers (out_of_latch n j) ≡ Some (driver.Latch j)
      own_drives = latch_drives j (latch_at n j) (latch_there n sound j own)

      pub are_places : ArePlaces n j signals (places_of n cone)
      are_places = record {
        sources = λ p h. source p (place_drives p h);
        others = λ p h. other p (place_drives p h);
        among = λ p h. in_signals p (place_drives p h);
        distinct = pairs_append (λ p q. p ≢ q) (map input_place cone.inputs) (map latch_place cone.latches) differ_inputs differ_latches crossed;
      }
        where
          Drives : ℕ → Type 0
          Drives p = ((i : ℕ) × Contains cone.inputs i × (slice_get n.drivers p ≡ Some (driver.Input i)) × Contains signals p) ⊎ ((k : ℕ) × (k ≢ j) × (slice_get n.drivers p ≡ Some (driver.Latch k)) × Contains signals p)

          source : (p : ℕ) → Drives p → IsSource (circuit_of n) p
          source p (inl (i, _, drives, _)) = input_source n sound p i drives
          source p (inr (k, _, drives, _)) = latch_source n sound p k drives

          in_signals : (p : ℕ) → Drives p → Contains signals p
          in_signals p (inl (_, _, _, h)) = h
          in_signals p (inr (_, _, _, h)) = h

          other : (p : ℕ) → Drives p → p ≢ out_of_latch n j
          other p (inl (i, _, drives, _)) same = no_input_latch (one_at n.drivers (out_of_latch n j) (driver.Input i) (driver.Latch j) (subst (λ s. slice_get n.drivers s ≡ Some (driver.Input i)) same drives) own_drives)
          other p (inr (k, differs, drives, _)) same = differs (one_latch n (out_of_latch n j) k j (subst (λ s. slice_get n.drivers s ≡ Some (driver.Latch k)) same drives) own_drives)

    -- the signals are closed, and hold their sources
    pub are_closed : AreClosed (circuit_of n) (out_of_latch n j) (places_of n cone) signals
    are_closed = record {
      reads = λ s q h r. (reached.exactly q).1 (reaches_on (circuit_of n) (data_of_latch n j) s q ((reached.exactly s).0 h) r);
      sources = λ s h source. by s h (source_drives n sound s source);
    }
      where
        by : (s : ℕ) → Contains signals s → ((i : ℕ) × (slice_get n.drivers s ≡ Some (driver.Input i))) ⊎ ((k : ℕ) × (slice_get n.drivers s ≡ Some (driver.Latch k))) → (s ≡ out_of_latch n j) ⊎ Contains (places_of n cone) s
        by s h (inl (i, drives)) =
            let p = sound.drivers s (driver.Input i) drives in
            let member : Contains cone.inputs i = (is.inputs i).1 (p.0, p.1, subst (IsInLatchCone n j) (sym p.2) ((reached.exactly s).0 h)) in
            let same : input_place i ≡ s = ap (λ (q : Port). q.signal.0) (get_or_from_slice_get n.inputs i p.0 no_port p.1) ∙ p.2 in
            inr (Contains-append_left (map input_place cone.inputs) (map latch_place cone.latches) s (subst (Contains (map input_place cone.inputs)) same (Contains-map input_place cone.inputs i member)))
        by s h (inr (k, drives)) = go (same_or_not k j)
          where
            l : (m : LatchAt) × (slice_get n.latches k ≡ Some m) × (m.out.0 ≡ s)
            l = sound.drivers s (driver.Latch k) drives

            there : latch_place k ≡ s
            there = ap (λ (q : LatchAt). q.out.0) (one_at n.latches k (latch_at n k) l.0 (latch_there n sound k (slice_get_within n.latches k l.0 l.1)) l.1) ∙ l.2

            go : (k ≡ j) ⊎ (k ≢ j) → (s ≡ out_of_latch n j) ⊎ Contains (places_of n cone) s
            go (inl e) = inl (sym there ∙ ap latch_place e)
            go (inr differs) =
                let member : Contains cone.latches k = (is.latches k).1 (differs, l.0, l.1, subst (IsInLatchCone n j) (sym l.2) ((reached.exactly s).0 h)) in
                inr (Contains-append_right (map input_place cone.inputs) (map latch_place cone.latches) s (subst (Contains (map latch_place cone.latches)) there (Contains-map latch_place cone.latches k member)))

  -- there are no more places than the signals count
  pub few_places : (places : List ℕ) → ArePlaces n j signals places → length places ≤ sum_by (weight_at n) signals
  few_places places are = omega (arith, fewer places signals are.distinct are.among, length_within (weight_at n) (weight_positive n sound) signals)

  -- the weight of the cone
  abbrev weighed : ℕ → Weighed ℕ
  weighed s = record { place = s; shift = 0; weight = weight_at n s }

  distinct_signals : AllPairs (λ (x y : Weighed ℕ). x.place ≢ y.place) (map weighed signals)
  distinct_signals = pairs_map weighed (λ a b. a < b) (λ (x y : Weighed ℕ). x.place ≢ y.place) signals (λ a b ha hb less same. omega arith) (AllPairs-from_increasing signals reached.increasing)

  weighed_each : (x : Weighed ℕ) → Contains (map weighed signals) x → (x.shift ≡ 0) × WeighsAt (circuit_of n) x.place x.weight
  weighed_each x h =
      let s = Contains-map_from weighed signals x h in
      subst (λ (y : Weighed ℕ). (y.shift ≡ 0) × WeighsAt (circuit_of n) y.place y.weight) s.2 (refl, weighs n sound s.0 (All-contains (λ t. t < length n.drivers) signals s.0 reached.within s.1))

  met_from : (x : Weighed ℕ) → Contains (map weighed signals) x → Reaches (circuit_of n) (data_of_latch n j) x.place
  met_from x h = let s = Contains-map_from weighed signals x h in subst (λ (y : Weighed ℕ). Reaches (circuit_of n) (data_of_latch n j) y.place) s.2 ((reached.exactly s.0).0 s.1)

  total : sum_by (λ (x : Weighed ℕ). x.weight) (map weighed signals) ≡ sum_by (weight_at n) signals
  total = sum_by-map (λ (x : Weighed ℕ). x.weight) weighed signals

  pub cone_weight : IsConeWeight (circuit_of n) (data_of_latch n j) (sum_by (weight_at n) signals)
  cone_weight = record {
    places = map weighed signals;
    distinct = distinct_signals;
    weighed = weighed_each;
    met = λ q. (λ h. met_from _ h.1, λ r. (weight_at n q, Contains-map weighed signals q ((reached.exactly q).1 r)));
    total = total;
  }

  pub cone_over : (cap : ℕ) → cap < sum_by (weight_at n) signals → IsConeOver (circuit_of n) (data_of_latch n j) cap
  cone_over cap h = record { places = map weighed signals; distinct = distinct_signals; weighed = weighed_each; met = met_from; total = subst (λ k. cap < k) (sym total) h }

  -- the latch's own signal is among them exactly where it has a self-edge
  pub own_reached : Contains signals (out_of_latch n j) → j < length n.latches → InCone (circuit_of n) (data_of_latch n j) (out_of_latch n j)
  own_reached h own = (latch_source n sound (out_of_latch n j) j (sound.latches j (latch_at n j) (latch_there n sound j own)).owner, (reached.exactly (out_of_latch n j)).0 h)

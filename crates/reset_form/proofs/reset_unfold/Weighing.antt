-- Weights of places, as the definition of the weight of unfoldings in cycles counts them.
use Rattle.std.proofs.Common.{◌≡◌, ◌≢◌, ◌∙◌, ◌<◌, ℕ, List, length, map, sym, subst}
use Rattle.std.specs.List.{AllPairs, Contains, sum_by}
use Rattle.circuit_theory.specs.Sizes.{WeighsAt}
use Rattle.circuit_theory.proofs.Lists.{Contains-map, Contains-map_from}
use Rattle.flat_net.specs.View.{NetView, circuit_of}
use Rattle.flat_net.specs.Sound.{IsSound}
use Rattle.circuit_laws.specs.reset_laws.Weight.{PlaceInCycle, WeighedInCycle, ResetVisits, IsResetWeight, IsResetOver}
use Rattle.flat_net.specs.Weights.{weight_at}
use Rattle.cbf_unfold.proofs.unfold_places.Lists.{pairs_map, sum_by-map}
use Rattle.flat_net.proofs.Drivers.{weighs}
use Rattle.reset_form.specs.reset_unfold.Places.{IsVisited, in_cycle, starts_of}

module _ (n : NetView) (sound : IsSound n) (done : List (ℕ × ℕ)) where
  abbrev pub weighed : ℕ × ℕ → WeighedInCycle ℕ
  weighed p = record { place = p.1; cycle = p.0; weight = weight_at n p.1 }

  -- each place is visited from where an unfolding begins
  abbrev pub AllVisited : List (ℕ × ℕ) → Type 0
  AllVisited xs = (p : ℕ × ℕ) → Contains xs p → IsVisited (circuit_of n) done p × (p.1 < length n.drivers)

  -- the same as the weight's definition says it
  abbrev FromStart : ℕ → ℕ → Type 0
  FromStart q j = (s : PlaceInCycle ℕ) × Contains (starts_of done) s × ResetVisits (circuit_of n) s.place s.cycle q j

  module _ (xs : List (ℕ × ℕ)) (differ : AllPairs (λ x y. x ≢ y) xs) (visited : AllVisited xs) where
    distinct : AllPairs (λ (x y : WeighedInCycle ℕ). (x.place ≡ y.place) → (x.cycle ≡ y.cycle) → ⊥) (map weighed xs)
    distinct =
        pairs_map weighed (λ x y. x ≢ y) (λ x y. (x.place ≡ y.place) → (x.cycle ≡ y.cycle) → ⊥) xs
        (λ x y hx hy apart place cycle. apart (λ i. (cycle i, place i))) differ

    each : (x : WeighedInCycle ℕ) → Contains (map weighed xs) x → (p : ℕ × ℕ) × Contains xs p × (weighed p ≡ x)
    each x h = Contains-map_from weighed xs x h

    weights : (x : WeighedInCycle ℕ) → Contains (map weighed xs) x → WeighsAt (circuit_of n) x.place x.weight
    weights x h = let p = each x h in subst (λ (y : WeighedInCycle ℕ). WeighsAt (circuit_of n) y.place y.weight) p.2 (weighs n sound p.0.1 (visited p.0 p.1).1)

    met : (x : WeighedInCycle ℕ) → Contains (map weighed xs) x → FromStart x.place x.cycle
    met x h =
        let p = each x h in
        let v = (visited p.0 p.1).0 in
        subst (λ (y : WeighedInCycle ℕ). FromStart y.place y.cycle) p.2 (in_cycle v.from, Contains-map in_cycle done v.from v.among, v.visits)

    total : sum_by (λ (x : WeighedInCycle ℕ). x.weight) (map weighed xs) ≡ sum_by (λ p. weight_at n p.1) xs
    total = sum_by-map (λ (x : WeighedInCycle ℕ). x.weight) weighed xs

    pub over_from : (cap : ℕ) → cap < sum_by (λ p. weight_at n p.1) xs → IsResetOver (circuit_of n) (starts_of done) cap
    over_from cap h = record { places = map weighed xs; distinct = distinct; weighed = weights; met = met; total = subst (λ k. cap < k) (sym total) h }

    pub weight_from : (weight : ℕ) → ((s p : ℕ × ℕ) → Contains done s → ResetVisits (circuit_of n) s.1 s.0 p.1 p.0 → Contains xs p) → sum_by (λ p. weight_at n p.1) xs ≡ weight →
        IsResetWeight (circuit_of n) (starts_of done) weight
    weight_from weight all is = record {
      places = map weighed xs;
      distinct = distinct;
      weighed = weights;
      met = λ q j. (λ h. met _ h.1, λ h. back q j h.0 h.1 h.2);
      total = total ∙ is;
    }
      where
        back : (q j : ℕ) (s : PlaceInCycle ℕ) → Contains (starts_of done) s → ResetVisits (circuit_of n) s.place s.cycle q j → (w : ℕ) × Contains (map weighed xs) (record { place = q; cycle = j; weight = w })
        back q j s among visits =
            let from = Contains-map_from in_cycle done s among in
            let seen : ResetVisits (circuit_of n) from.0.1 from.0.0 q j = subst (λ (r : PlaceInCycle ℕ). ResetVisits (circuit_of n) r.place r.cycle q j) (sym from.2) visits in
            (weight_at n q, Contains-map weighed xs (j, q) (all from.0 (j, q) from.1 seen))

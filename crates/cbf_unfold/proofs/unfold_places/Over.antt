-- Weights of places, as the definition of an unfolding's weight counts them.
use Rattle.std.proofs.Common.{◌≡◌, ◌≢◌, ◌∙◌, ◌-◌, ◌<◌, ◌≤◌, ℕ, List, length, map, take, get_or, slice_get, Some, sym, ap, subst, arith}
use Rattle.std.specs.List.{AllPairs, Contains, sum_by}
use Rattle.std.proofs.lemmas.Option.{slice_get-get_or}
use Rattle.circuit_theory.specs.Sizes.{Visits, WeighsAt, Weighed, IsWeight, IsOver}
use Rattle.circuit_theory.proofs.Lists.{Contains-map, Contains-map_from}
use Rattle.flat_net.specs.Table.{AreDistinct}
use Rattle.flat_net.proofs.TableLemmas.{slice_get-take}
use Rattle.flat_net.specs.View.{NetView, circuit_of}
use Rattle.flat_net.specs.Sound.{IsSound}
use Rattle.cbf_unfold.specs.unfold_places.Places.{IsVisited}
use Rattle.flat_net.specs.Weights.{weight_at}
use Rattle.aig.proofs.Lists.{pairs_map, sum_by-map}
use Rattle.flat_net.proofs.Drivers.{weighs}

-- distinct elements differ in pairs
pub pairs_differ : {X : Type 0} (xs : List X) → AreDistinct xs → AllPairs (λ x y. x ≢ y) xs
pairs_differ xs distinct i j d below within same =
    let before : i < length xs = omega arith in
    let first : slice_get xs i ≡ Some (get_or xs i d) = slice_get-get_or xs i d before in
    let second : slice_get xs j ≡ Some (get_or xs i d) = slice_get-get_or xs j d within ∙ ap Some (sym same) in
    let one : i ≡ j = distinct i j (get_or xs i d) first second in
    omega arith

pub distinct_front : {X : Type 0} (xs : List X) (n : ℕ) → AreDistinct xs → AreDistinct (take n xs)
distinct_front xs n distinct i j x hi hj = distinct i j x (slice_get-take n xs i x hi).1 (slice_get-take n xs j x hj).1

module _ (n : NetView) (sound : IsSound n) (last : ℕ) (outputs : List ℕ) where
  abbrev pub weighed : ℕ × ℕ → Weighed ℕ
  weighed p = record { place = p.1; shift = last - p.0; weight = weight_at n p.1 }

  -- each place is visited from one of the outputs
  abbrev pub AllVisited : List (ℕ × ℕ) → Type 0
  AllVisited xs = (p : ℕ × ℕ) → Contains xs p → IsVisited (circuit_of n) last outputs p × (p.1 < length n.drivers)

  module _ (xs : List (ℕ × ℕ)) (differ : AllPairs (λ x y. x ≢ y) xs) (visited : AllVisited xs) where
    distinct : AllPairs (λ (x y : Weighed ℕ). (x.place ≡ y.place) → (x.shift ≡ y.shift) → ⊥) (map weighed xs)
    distinct =
        pairs_map weighed (λ x y. x ≢ y) (λ x y. (x.place ≡ y.place) → (x.shift ≡ y.shift) → ⊥) xs
        (λ x y hx hy apart place shift.
        let left = (visited x hx).0.cycle in
        let right = (visited y hy).0.cycle in
        let cycle : x.0 ≡ y.0 = omega arith in
        apart (λ i. (cycle i, place i)))
        differ

    each : (x : Weighed ℕ) → Contains (map weighed xs) x → (p : ℕ × ℕ) × Contains xs p × (weighed p ≡ x)
    each x h = Contains-map_from weighed xs x h

    weights : (x : Weighed ℕ) → Contains (map weighed xs) x → WeighsAt (circuit_of n) x.place x.weight
    weights x h = let p = each x h in subst (λ (y : Weighed ℕ). WeighsAt (circuit_of n) y.place y.weight) p.2 (weighs n sound p.0.1 (visited p.0 p.1).1)

    met : (x : Weighed ℕ) → Contains (map weighed xs) x → (s : ℕ) × Contains outputs s × Visits (circuit_of n) s 0 x.place x.shift
    met x h =
        let p = each x h in
        let v = (visited p.0 p.1).0 in
        subst (λ (y : Weighed ℕ). (s : ℕ) × Contains outputs s × Visits (circuit_of n) s 0 y.place y.shift) p.2 (v.from, v.among, v.visits)

    total : sum_by (λ (x : Weighed ℕ). x.weight) (map weighed xs) ≡ sum_by (λ p. weight_at n p.1) xs
    total = sum_by-map (λ (x : Weighed ℕ). x.weight) weighed xs

    pub over_from : (cap : ℕ) → cap < sum_by (λ p. weight_at n p.1) xs → IsOver (circuit_of n) outputs cap
    over_from cap h = record { places = map weighed xs; distinct = distinct; weighed = weights; met = met; total = subst (λ k. cap < k) (sym total) h }

    pub weight_from : (weight : ℕ) → ((s q j : ℕ) → Contains outputs s → Visits (circuit_of n) s 0 q j → (j ≤ last) × Contains xs (last - j, q)) → sum_by (λ p. weight_at n p.1) xs ≡ weight →
        IsWeight (circuit_of n) outputs weight
    weight_from weight all is = record {
      places = map weighed xs;
      distinct = distinct;
      weighed = weights;
      met = λ q j. (λ h. met _ h.1, λ h. back q j h.0 h.1 h.2);
      total = total ∙ is;
    }
      where
        back : (q j s : ℕ) → Contains outputs s → Visits (circuit_of n) s 0 q j → (w : ℕ) × Contains (map weighed xs) (record { place = q; shift = j; weight = w })
        back q j s among visits =
            let h = all s q j among visits in
            let shift : last - (last - j) ≡ j = omega (arith, h.0) in
            (weight_at n q, subst (λ k. Contains (map weighed xs) (record { place = q; shift = k; weight = weight_at n q })) shift (Contains-map weighed xs (last - j, q) h.1))

-- What is counted, as the definition of an event unfolding's weight counts it.
use Rattle.std.proofs.Common.{◌≡◌, ◌≢◌, ◌∙◌, ◌<◌, ℕ, List, length, map, get_or, slice_get, Option, Some, sym, ap, subst, arith}
use Rattle.std.specs.List.{All, AllPairs, Contains, sum_by}
use Rattle.std.proofs.lemmas.Option.{slice_get-get_or}
use Rattle.flat_net.specs.circuit_theory.Sizes.{WeighsAt}
use Rattle.flat_net.proofs.circuit_theory.Lists.{Contains-map, Contains-map_from, at_of}
use Rattle.flat_net.specs.circuit_theory.EventSizes.{Start, EventVisits, WeighedAtNode, IsEventWeight, IsEventOver}
use Rattle.flat_net.specs.Table.{AreDistinct}
use Rattle.flat_net.specs.View.{circuit_of}
use Rattle.flat_net.specs.Sound.{IsSound}
use Rattle.flat_net.proofs.Places.{All-at}
use Rattle.event_nodes.specs.Laws.{CountedIsWeight, PassedIsOver}
use Rattle.event_nodes.specs.Nodes.{EventGraphView, IsEventGraph, path_of}
use Rattle.event_nodes.specs.Reach.{IsListedAt}
use Rattle.event_nodes.specs.View.{EventCircuitView, side_of, Enabled}
use Rattle.event_nodes.specs.Visited.{IsVisitedPair, places_weight}
use Rattle.flat_net.specs.Weights.{weight_at}
use Rattle.flat_net.proofs.Drivers.{weighs}
use Rattle.aig.proofs.Lists.{pairs_map, sum_by-map}
use Rattle.event_nodes.proofs.OnePath.{one_node}
use Rattle.event_nodes.proofs.Visits.{visits_one}

-- distinct elements differ in pairs
pub pairs_differ : {X : Type 0} (xs : List X) → AreDistinct xs → AllPairs (λ x y. x ≢ y) xs
pairs_differ xs distinct i j d below within same =
    let before : i < length xs = omega arith in
    let first : slice_get xs i ≡ Some (get_or xs i d) = slice_get-get_or xs i d before in
    let second : slice_get xs j ≡ Some (get_or xs i d) = slice_get-get_or xs j d within ∙ ap Some (sym same) in
    let one : i ≡ j = distinct i j (get_or xs i d) first second in
    omega arith

module _ (e : EventCircuitView) (sound : IsSound e.net) (w : EventGraphView) (is : IsEventGraph w) (starts : List (Start ℕ)) where
  abbrev weighed : ℕ × ℕ → WeighedAtNode ℕ
  weighed p = record { place = p.1; node = path_of w.children p.0; weight = weight_at e.net p.1 }

  module _ (xs : List (ℕ × ℕ)) (differ : AllPairs (λ x y. x ≢ y) xs) (all : All (IsVisitedPair e w.children starts) xs) where
    visited : (p : ℕ × ℕ) → Contains xs p → IsVisitedPair e w.children starts p
    visited p h = let i = at_of xs p h in All-at (IsVisitedPair e w.children starts) xs i.0 p i.1 all

    distinct : AllPairs (λ (x y : WeighedAtNode ℕ). (x.place ≡ y.place) → (x.node ≡ y.node) → ⊥) (map weighed xs)
    distinct =
        pairs_map weighed (λ x y. x ≢ y) (λ x y. (x.place ≡ y.place) → (x.node ≡ y.node) → ⊥) xs
        (λ x y hx hy apart place path.
        let node : x.0 ≡ y.0 = one_node w.children is.is_tree is.once x.0 y.0 (visited x hx).node (visited y hy).node path in
        apart (λ i. (node i, place i)))
        differ

    each : (x : WeighedAtNode ℕ) → Contains (map weighed xs) x → (p : ℕ × ℕ) × Contains xs p × (weighed p ≡ x)
    each x h = Contains-map_from weighed xs x h

    weights : (x : WeighedAtNode ℕ) → Contains (map weighed xs) x → WeighsAt (circuit_of e.net) x.place x.weight
    weights x h = let p = each x h in subst (λ (y : WeighedAtNode ℕ). WeighsAt (circuit_of e.net) y.place y.weight) p.2 (weighs e.net sound p.0.1 (visited p.0 p.1).within)

    met : (x : WeighedAtNode ℕ) → Contains (map weighed xs) x → (out : Option ℕ) × EventVisits (side_of e) (Enabled e) starts out x.place x.node
    met x h =
        let p = each x h in
        let v = visited p.0 p.1 in
        subst (λ (y : WeighedAtNode ℕ). (out : Option ℕ) × EventVisits (side_of e) (Enabled e) starts out y.place y.node) p.2 (v.out, v.visit)

    total : sum_by (λ (x : WeighedAtNode ℕ). x.weight) (map weighed xs) ≡ places_weight e.net xs
    total = sum_by-map (λ (x : WeighedAtNode ℕ). x.weight) weighed xs

    over_from : (cap : ℕ) → cap < places_weight e.net xs → IsEventOver (side_of e) (Enabled e) starts cap
    over_from cap h = record { places = map weighed xs; distinct = distinct; weighed = weights; met = met; total = subst (λ k. cap < k) (sym total) h }

    weight_from : (weight : ℕ) → ((out : Option ℕ) (q : ℕ) (path : List ℕ) → EventVisits (side_of e) (Enabled e) starts out q path → IsListedAt w.children xs path q) → places_weight e.net xs ≡ weight → IsEventWeight (side_of e) (Enabled e) starts weight
    weight_from weight holds same = record {
      places = map weighed xs;
      distinct = distinct;
      weighed = weights;
      met = λ q path. (λ h. met _ h.1, λ h. back q path (holds h.0 q path h.1));
      total = total ∙ same;
    }
      where
        back : (q : ℕ) (path : List ℕ) → IsListedAt w.children xs path q → (k : ℕ) × Contains (map weighed xs) (record { place = q; node = path; weight = k })
        back q path l =
            (weight_at e.net q, subst (λ (n : List ℕ). Contains (map weighed xs) (record { place = q; node = n; weight = weight_at e.net q })) l.path_is (Contains-map weighed xs (l.node, q) l.listed))

pub counted_weight : CountedIsWeight
counted_weight e w starts c sound is once counted =
    weight_from e sound w is starts c.places (pairs_differ c.places once) counted.only c.weight
    (λ out q path visit. let x = visits_one (side_of e) (Enabled e) starts visit in counted.all x.0 x.1 out q path x.2) counted.weighed.sum

pub passed_over : PassedIsOver
passed_over e w starts places cap sound is once only h = over_from e sound w is starts places (pairs_differ places once) only cap h

-- How an unfolder goes on: what stays, and what one place more brings.
use Rattle.std.proofs.Common.{◌≡◌, ◌≢◌, ◌∙◌, ◌+◌, ◌-◌, ◌<◌, ◌≤◌, ℕ, List, [], ◌∷◌, ◌++◌, length, map, get_or, slice_get, Some, refl, sym, ap, subst, arith, inl, inr}
use Rattle.std.specs.Prelude.{◌⊎◌}
use Rattle.std.specs.List.{All, AllPairs, Contains, sum_by}
use Rattle.std.proofs.lemmas.Bool.{cases_order, cases_lt}
use Rattle.std.proofs.lemmas.List.Elements.{All-contains, Contains-push, Contains-push_cases}
use Rattle.std.proofs.lemmas.List.Sums.{sum_by-append, sum_by-cons}
use Rattle.std.proofs.lemmas.Option.{slice_get_within, same_Some, get_or_from_slice_get}
use Rattle.circuit_theory.specs.Sizes.{Visits, IsOver, IsWeight}
use Rattle.circuit_theory.specs.Circuit.{Circuit}
use Rattle.circuit_theory.proofs.Lists.{Contains-map, Contains-map_from, only, All-from_each, at_of, of_at}
use Rattle.flat_net.proofs.Growth.{slice_get-append}
use Rattle.flat_net.specs.View.{NetView, circuit_of}
use Rattle.flat_net.specs.Sound.{IsSound}
use Rattle.flat_net.proofs.Places.{All-at}
use Rattle.aig.specs.declared.node.Lit.{Lit}
use Rattle.aig.specs.declared.node.Node.{Node}
use Rattle.aig.proofs.Growth.{Grows-refl, Grows-trans}
use Rattle.cbf_unfold.specs.unfold_places.Places.{Steps, PlaceBefore, IsVisited}
use Rattle.flat_net.specs.Weights.{weight_at}
use Rattle.cbf_unfold.specs.unfold_places.Reach.{IsThere, IsReach}
use Rattle.cbf_unfold.specs.unfold_places.Planned.{IsPlanned}
use Rattle.cbf_unfold.specs.View.{UnfolderView}
use Rattle.cbf_unfold.specs.Unfolded.{IsKnown, Holds}
use Rattle.cbf_unfold.specs.Building.{IsMet, IsReady, HasRoom, HasGrown, IsLater}
use Rattle.aig.proofs.Lists.{adds_none, adds_trans, adds_push, adds_contains, append_cases, pairs_at, sum_by-map}
use Rattle.cbf_unfold.proofs.unfold_places.Steps.{step_lower, step_within}
use Rattle.cbf_unfold.proofs.unfold_places.InputLists.{place_apart, pairs_push}
use Rattle.cbf_unfold.proofs.Known.{Any, known_later}
use Rattle.cbf_unfold.proofs.unfold_places.Over.{over_from, weight_from}

abbrev Memo : Type 0
Memo = List ((ℕ × ℕ) × Lit)

abbrev AnyEntry : (ℕ × ℕ) × Lit → Type 0
AnyEntry e = Unit {0}

-- nothing happened
pub later_none : (u : UnfolderView) (g : List Node) (places : List (ℕ × ℕ)) → u.weight ≤ u.cap → IsLater u u g g places places
later_none u g places small = record {
  net = refl;
  order = refl;
  cap = refl;
  memo = adds_none AnyEntry u.memo u.memo refl;
  grows = Grows-refl g;
  adds = adds_none Any places places refl;
  nodes = omega arith;
  entries = omega arith;
  small = small;
}

pub later_trans : (u v w : UnfolderView) (g h k : List Node) (places more most : List (ℕ × ℕ)) → IsLater u v g h places more → IsLater v w h k more most → IsLater u w g k places most
later_trans u v w g h k places more most a b = record {
  net = b.net ∙ a.net;
  order = b.order ∙ a.order;
  cap = b.cap ∙ a.cap;
  memo = adds_trans AnyEntry u.memo v.memo w.memo a.memo b.memo;
  grows = Grows-trans g h k a.grows b.grows;
  adds = adds_trans Any places more most a.adds b.adds;
  nodes = omega (arith, a.nodes, b.nodes);
  entries = omega (arith, a.entries, b.entries);
  small = b.small;
}

pub room_later : (u v : UnfolderView) (g h : List Node) (places more : List (ℕ × ℕ)) → HasRoom u g places → IsLater u v g h places more → HasRoom v h more
room_later u v g h places more room later = record {
  nodes = omega (arith, room.nodes, later.nodes, later.cap);
  entries = omega (arith, room.entries, later.entries, later.cap);
  small = later.small;
}

pub met_later : (u v : UnfolderView) (g h : List Node) (places more : List (ℕ × ℕ)) (p : ℕ × ℕ) → IsLater u v g h places more → IsMet u.memo p → IsMet v.memo p
met_later u v g h places more p later met = (met.0, adds_contains AnyEntry u.memo v.memo (p, met.0) later.memo met.1)

-- what a visited place reads stands before it
pub stands_before : (n : NetView) → IsSound n → (s last : ℕ) (memo : Memo) (reach : List (ℕ × ℕ)) → IsReach (circuit_of n) (length n.drivers) s last memo reach → (i : ℕ) (p q : ℕ × ℕ) → slice_get reach i ≡ Some p → Steps (circuit_of n) p q →
    Contains reach q → (j : ℕ) × (j < i) × (slice_get reach j ≡ Some q)
stands_before n sound s last memo reach is i p q here steps there =
    let at = at_of reach q there in
    (at.0, go at.0 at.1 (cases_order at.0 i), at.1)
  where
    lower : Steps (circuit_of n) p q → PlaceBefore q p
    lower (inl h) = inr (h.0, step_lower n sound p q h.1)
    lower (inr h) = inl (omega (arith, h.0))

    back : PlaceBefore p q → PlaceBefore q p → ⊥
    back (inl a) (inl b) = omega (arith, a, b)
    back (inl a) (inr b) = omega (arith, a, b.0)
    back (inr a) (inl b) = omega (arith, a.0, b)
    back (inr a) (inr b) = omega (arith, a.1, b.1)

    go : (j : ℕ) → slice_get reach j ≡ Some q → (j ≡ i) ⊎ ((j < i) ⊎ (i < j)) → j < i
    go j at (inl e) = absurd (place_apart q p (lower steps) (same_Some q p (sym at ∙ ap (slice_get reach) e ∙ here)))
    go j at (inr (inl l)) = l
    go j at (inr (inr l)) = absurd (back (pairs_at PlaceBefore reach i j p q is.ordered l here at) (lower steps))

-- the next place can be unfolded
pub ready_at : (u v : UnfolderView) (s : ℕ) (reach : List (ℕ × ℕ)) → IsSound u.net → Contains u.done s → IsReach (circuit_of u.net) (length u.net.drivers) s u.cap u.memo reach → v.net ≡ u.net → v.cap ≡ u.cap → v.done ≡ u.done →
    ((q : ℕ × ℕ) → IsMet u.memo q → IsMet v.memo q) → (i : ℕ) (p : ℕ × ℕ) → slice_get reach i ≡ Some p → ((j : ℕ) (q : ℕ × ℕ) → j < i → slice_get reach j ≡ Some q → IsMet v.memo q) → IsReady v p
ready_at u v s reach sound among is net cap done kept i p here met =
    let own = is.are.visited p (of_at reach i p here) in
    let inside = All-at (λ q. (0 < q.0) × (q.1 < length u.net.drivers)) reach i p here is.are.within in
    let visited : IsVisited (circuit_of u.net) u.cap u.done p = record { cycle = own.0; from = s; among = among; visits = own.1 } in
    record {
      visited =
          subst (λ (n : NetView). IsVisited (circuit_of n) v.cap v.done p) (sym net)
          (subst (λ (k : ℕ). IsVisited (circuit_of u.net) k v.done p) (sym cap) (subst (λ (d : List ℕ). IsVisited (circuit_of u.net) u.cap d p) (sym done) visited));
      within = subst (λ (n : NetView). p.1 < length n.drivers) (sym net) inside.1;
      early = inside.0;
      read = λ q steps. let own = subst (λ (n : NetView). Steps (circuit_of n) p q) net steps in reads q own (is.are.closed p q (of_at reach i p here) own);
    }
  where
    reads : (q : ℕ × ℕ) → Steps (circuit_of u.net) p q → IsThere u.memo reach q → IsMet v.memo q
    reads q steps (inl there) = let b = stands_before u.net sound s u.cap u.memo reach is i p q here steps there in met b.0 q b.1 b.2
    reads q steps (inr m) = kept q m

-- a place that a signal of the net visits is one of the net
pub visit_within : (n : NetView) → IsSound n → (s : ℕ) → s < length n.drivers → {q j : ℕ} → Visits (circuit_of n) s 0 q j → q < length n.drivers
visit_within n sound s inside Visits.itself = inside
visit_within n sound s inside (Visits.reads {q = q} {r = r} {j = j} visits reads) = step_within n sound (0, q) (0, r) (inl (refl, reads)) (visit_within n sound s inside visits)
visit_within n sound s inside (Visits.back {q = q} {next = next} {j = j} {name = name} visits latch) = step_within n sound (1, q) (0, next) (inr (refl, name, latch)) (visit_within n sound s inside visits)

module _ (u : UnfolderView) (sound : IsSound u.net) (g : List Node) (places : List (ℕ × ℕ)) (holds : Holds u g places) where
  -- the places that were met are visited
  pub entries_visited : (p : ℕ × ℕ) → Contains (map (λ e. e.0) u.memo) p → IsVisited (circuit_of u.net) u.cap u.done p × (p.1 < length u.net.drivers)
  entries_visited p h =
      let e = Contains-map_from (λ e. e.0) u.memo p h in
      let v = subst (IsVisited (circuit_of u.net) u.cap u.done) e.2 (holds.visited e.0.0 e.0.1 e.1) in
      (v, visit_within u.net sound v.from (All-contains (λ s. s < length u.net.drivers) u.done v.from holds.within v.among) v.visits)

  -- and their signals are the net's
  pub entries_within : All (λ (e : (ℕ × ℕ) × Lit). e.0.1 < length u.net.drivers) u.memo
  entries_within =
      All-from_each (λ (e : (ℕ × ℕ) × Lit). e.0.1 < length u.net.drivers) u.memo
      (λ e h. let v = holds.visited e.0 e.1 h in visit_within u.net sound v.from (All-contains (λ s. s < length u.net.drivers) u.done v.from holds.within v.among) v.visits)

  entries_weigh : sum_by (λ p. weight_at u.net p.1) (map (λ e. e.0) u.memo) ≡ u.weight
  entries_weigh = sum_by-map (λ p. weight_at u.net p.1) (λ (e : (ℕ × ℕ) × Lit). e.0) u.memo ∙ holds.counted

  -- with one place more they weigh too much
  pub place_over : AllPairs (λ p q. p ≢ q) (map (λ e. e.0) u.memo) → (p : ℕ × ℕ) → IsReady u p → (Contains (map (λ e. e.0) u.memo) p → ⊥) → u.weight ≤ u.cap → u.cap - u.weight < weight_at u.net p.1 → IsOver (circuit_of u.net) u.done u.cap
  place_over differ p ready absent small above =
      over_from u.net sound u.cap u.done (map (λ e. e.0) u.memo ++ p ∷ [])
      (pairs_push (λ x y. x ≢ y) (map (λ e. e.0) u.memo) p differ (λ y h e. absent (subst (Contains (map (λ e. e.0) u.memo)) e h)))
      (λ q h. pick q (Contains-push_cases (map (λ e. e.0) u.memo) p q h))
      u.cap
      (let first : sum_by (λ q. weight_at u.net q.1) (map (λ e. e.0) u.memo ++ p ∷ []) ≡ sum_by (λ q. weight_at u.net q.1) (map (λ e. e.0) u.memo) + sum_by (λ q. weight_at u.net q.1) (p ∷ []) = sum_by-append (λ q. weight_at u.net q.1) (map (λ e. e.0) u.memo) (p ∷ []) in
      let second : sum_by (λ q. weight_at u.net q.1) (p ∷ []) ≡ weight_at u.net p.1 + 0 = sum_by-cons (λ q. weight_at u.net q.1) p [] in
      omega (arith, first, second, entries_weigh, small, above))
    where
      pick : (q : ℕ × ℕ) → Contains (map (λ (e : (ℕ × ℕ) × Lit). e.0) u.memo) q ⊎ (p ≡ q) → IsVisited (circuit_of u.net) u.cap u.done q × (q.1 < length u.net.drivers)
      pick q (inl h) = entries_visited q h
      pick q (inr e) = subst (λ r. IsVisited (circuit_of u.net) u.cap u.done r × (r.1 < length u.net.drivers)) e (ready.visited, ready.within)

  -- where all that is visited has been met, they weigh what the unfoldings weigh
  pub places_weigh : AllPairs (λ p q. p ≢ q) (map (λ e. e.0) u.memo) → ((s q j : ℕ) → Contains u.done s → Visits (circuit_of u.net) s 0 q j → (j ≤ u.cap) × IsMet u.memo (u.cap - j, q)) → IsWeight (circuit_of u.net) u.done u.weight
  places_weigh differ met =
      weight_from u.net sound u.cap u.done (map (λ e. e.0) u.memo) differ entries_visited u.weight
      (λ s q j among visits. let m = met s q j among visits in (m.0, Contains-map (λ (e : (ℕ × ℕ) × Lit). e.0) u.memo ((u.cap - j, q), m.1.0) m.1.1))
      entries_weigh

-- one place more stands behind those that it reads
pub planned_push : (c : Circuit ℕ) (memo new : Memo) (p : ℕ × ℕ) (x : Lit) → new ≡ memo ++ (p, x) ∷ [] → IsPlanned c memo → 0 < p.0 → ((q : ℕ × ℕ) → Steps c p q → IsMet memo q) → IsPlanned c new
planned_push c memo new p x is planned early read = subst (IsPlanned c) (sym is) (record {
  early = λ i e at. first i e (append_cases memo ((p, x) ∷ []) i e at);
  read = λ i e q at steps. back i e q steps (append_cases memo ((p, x) ∷ []) i e at);
})
  where
    first : (i : ℕ) (e : (ℕ × ℕ) × Lit) → (slice_get memo i ≡ Some e) ⊎ ((length memo ≤ i) × Contains ((p, x) ∷ []) e) → 0 < e.0.0
    first i e (inl at) = planned.early i e at
    first i e (inr h) = subst (λ (d : (ℕ × ℕ) × Lit). 0 < d.0.0) (only (p, x) e h.1) early

    back : (i : ℕ) (e : (ℕ × ℕ) × Lit) (q : ℕ × ℕ) → Steps c e.0 q → (slice_get memo i ≡ Some e) ⊎ ((length memo ≤ i) × Contains ((p, x) ∷ []) e) →
        (j : ℕ) × (y : Lit) × (j < i) × (slice_get (memo ++ (p, x) ∷ []) j ≡ Some (q, y))
    back i e q steps (inl at) = let r = planned.read i e q at steps in (r.0, r.1, r.2, slice_get-append memo ((p, x) ∷ []) r.0 (q, r.1) r.3)
    back i e q steps (inr h) =
        let m = read q (subst (λ (d : (ℕ × ℕ) × Lit). Steps c d.0 q) (sym (only (p, x) e h.1)) steps) in
        let j = at_of memo (q, m.0) m.1 in
        (j.0, m.0, (let l = slice_get_within memo j.0 (q, m.0) j.1 in omega (arith, l, h.0)), slice_get-append memo ((p, x) ∷ []) j.0 (q, m.0) j.1)

-- one place more has been met: `v` is the unfolder before it, with the weight that it has then
module _ (u v : UnfolderView) (g h : List Node) (places more : List (ℕ × ℕ)) (p : ℕ × ℕ) (x : Lit) (net : v.net ≡ u.net) (order : v.order ≡ u.order) (cap : v.cap ≡ u.cap) (done : v.done ≡ u.done)
    (memo : v.memo ≡ u.memo ++ (p, x) ∷ []) (weight : v.weight ≡ u.weight + weight_at u.net p.1) (grown : HasGrown g h places more (weight_at u.net p.1)) where
  pub one_later : v.weight ≤ v.cap → IsLater u v g h places more
  one_later small = record {
    net = net;
    order = order;
    cap = cap;
    memo = adds_push AnyEntry u.memo v.memo (p, x) memo tt;
    grows = grown.grows;
    adds = grown.adds;
    nodes = omega (arith, grown.nodes, weight);
    entries = omega (arith, grown.entries, weight);
    small = small;
  }

  pub one_met : IsMet v.memo p
  one_met = (x, subst (λ (m : List ((ℕ × ℕ) × Lit)). Contains m (p, x)) (sym memo) (Contains-push u.memo (p, x)))

  -- the unfolder as it is before, with the new entry: `v`'s fields in place of `u`'s are the same
  pub one_holds : Holds u g places → IsReady u p → IsKnown u.net u.order u.cap h more p x.0 → Holds v h more
  one_holds holds ready known = record {
    known = λ q y m. knows q y (Contains-push_cases u.memo (p, x) (q, y) (subst (λ (l : List ((ℕ × ℕ) × Lit)). Contains l (q, y)) memo m));
    visited = λ q y m. visits q y (Contains-push_cases u.memo (p, x) (q, y) (subst (λ (l : List ((ℕ × ℕ) × Lit)). Contains l (q, y)) memo m));
    within = subst (λ (n : NetView). All (λ s. s < length n.drivers) v.done) (sym net) (subst (λ (d : List ℕ). All (λ s. s < length u.net.drivers) d) (sym done) holds.within);
    counted = counts;
    planned = subst (λ (n : NetView). IsPlanned (circuit_of n) v.memo) (sym net) (planned_push (circuit_of u.net) u.memo v.memo p x memo holds.planned ready.early ready.read);
  }
    where
      known_in : (q : ℕ × ℕ) (y : ℕ) → IsKnown u.net u.order u.cap h more q y → IsKnown v.net v.order v.cap h more q y
      known_in q y k =
          subst (λ (n : NetView). IsKnown n v.order v.cap h more q y) (sym net)
          (subst (λ (o : List ℕ). IsKnown u.net o v.cap h more q y) (sym order) (subst (λ (c : ℕ). IsKnown u.net u.order c h more q y) (sym cap) k))

      knows : (q : ℕ × ℕ) (y : Lit) → Contains u.memo (q, y) ⊎ ◌≡◌ {A = (ℕ × ℕ) × Lit} (p, x) (q, y) → IsKnown v.net v.order v.cap h more q y.0
      knows q y (inl m) = known_in q y.0 (known_later u.net u.order u.cap g h places more q y.0 grown.grows grown.adds (holds.known q y m))
      knows q y (inr e) = known_in q y.0 (subst (λ (f : (ℕ × ℕ) × Lit). IsKnown u.net u.order u.cap h more f.0 f.1.0) e known)

      visited_in : (q : ℕ × ℕ) → IsVisited (circuit_of u.net) u.cap u.done q → IsVisited (circuit_of v.net) v.cap v.done q
      visited_in q k =
          subst (λ (n : NetView). IsVisited (circuit_of n) v.cap v.done q) (sym net)
          (subst (λ (c : ℕ). IsVisited (circuit_of u.net) c v.done q) (sym cap) (subst (λ (d : List ℕ). IsVisited (circuit_of u.net) u.cap d q) (sym done) k))

      visits : (q : ℕ × ℕ) (y : Lit) → Contains u.memo (q, y) ⊎ ◌≡◌ {A = (ℕ × ℕ) × Lit} (p, x) (q, y) → IsVisited (circuit_of v.net) v.cap v.done q
      visits q y (inl m) = visited_in q (holds.visited q y m)
      visits q y (inr e) = visited_in q (subst (λ (f : (ℕ × ℕ) × Lit). IsVisited (circuit_of u.net) u.cap u.done f.0) e ready.visited)

      counts : sum_by (λ e. weight_at v.net e.0.1) v.memo ≡ v.weight
      counts =
          let sum : sum_by (λ (e : (ℕ × ℕ) × Lit). weight_at u.net e.0.1) (u.memo ++ (p, x) ∷ []) ≡ sum_by (λ (e : (ℕ × ℕ) × Lit). weight_at u.net e.0.1) u.memo + sum_by (λ (e : (ℕ × ℕ) × Lit). weight_at u.net e.0.1) ((p, x) ∷ []) =
          sum_by-append (λ (e : (ℕ × ℕ) × Lit). weight_at u.net e.0.1) u.memo ((p, x) ∷ []) in
          let last : sum_by (λ (e : (ℕ × ℕ) × Lit). weight_at u.net e.0.1) ((p, x) ∷ []) ≡ weight_at u.net p.1 + 0 = sum_by-cons (λ (e : (ℕ × ℕ) × Lit). weight_at u.net e.0.1) (p, x) [] in
          let total : sum_by (λ (e : (ℕ × ℕ) × Lit). weight_at u.net e.0.1) (u.memo ++ (p, x) ∷ []) ≡ v.weight = omega (arith, sum, last, holds.counted, weight) in
          ap (λ (n : NetView). sum_by (λ (e : (ℕ × ℕ) × Lit). weight_at n e.0.1) v.memo) net ∙ (ap (sum_by (λ (e : (ℕ × ℕ) × Lit). weight_at u.net e.0.1)) memo ∙ total)

-- the places so far, and one more
pub met_next : (u v : UnfolderView) (g h : List Node) (places more : List (ℕ × ℕ)) (reach : List (ℕ × ℕ)) (i : ℕ) (d : ℕ × ℕ) → i < length reach → IsLater u v g h places more → IsMet v.memo (get_or reach i d) →
    ((j : ℕ) (q : ℕ × ℕ) → j < i → slice_get reach j ≡ Some q → IsMet u.memo q) → (j : ℕ) (q : ℕ × ℕ) → j < i + 1 → slice_get reach j ≡ Some q → IsMet v.memo q
met_next u v g h places more reach i d inside later here before j q below at = go (cases_lt j i)
  where
    go : (j < i) ⊎ (i ≤ j) → IsMet v.memo q
    go (inl l) = met_later u v g h places more q later (before j q l at)
    go (inr l) =
        let same : j ≡ i = omega arith in
        let one : get_or reach i d ≡ q = get_or_from_slice_get reach i q d (subst (λ (k : ℕ). slice_get reach k ≡ Some q) same at) in
        subst (IsMet v.memo) one here

-- the weight of a place is counted before it is unfolded
pub ready_weight : (u : UnfolderView) (weight : ℕ) (p : ℕ × ℕ) → IsReady u p → IsReady (record u { weight = weight }) p
ready_weight u weight p ready = record { visited = ready.visited; within = ready.within; early = ready.early; read = ready.read }

-- what follows for the unfolder as a call has it, `z`, from what holds of the unfolder as it was passed, `u`
module _ (z u : UnfolderView) (same : z ≡ u) (g : List Node) (places : List (ℕ × ℕ)) (p : ℕ × ℕ) where
  pub holds_at : Holds u g places → Holds z g places
  holds_at h = subst (λ (k : UnfolderView). Holds k g places) (sym same) h

  pub ready_as : IsReady u p → IsReady z p
  ready_as h = subst (λ (k : UnfolderView). IsReady k p) (sym same) h

  pub room_at : HasRoom u g places → HasRoom z g places
  room_at h = subst (λ (k : UnfolderView). HasRoom k g places) (sym same) h

  pub over_at : IsSound z.net → Holds u g places → HasRoom u g places → AllPairs (λ p q. p ≢ q) (map (λ e. e.0) z.memo) → IsReady u p → (Contains (map (λ e. e.0) z.memo) p → ⊥) → z.cap - z.weight < weight_at z.net p.1 →
      IsOver (circuit_of u.net) u.done u.cap
  over_at sound holds room differ ready absent above =
      subst (λ (k : UnfolderView). IsOver (circuit_of k.net) k.done k.cap) same
      (place_over z sound g places (holds_at holds) differ p (ready_as ready) absent (room_at room).small above)

  pub weight_later : (h : List Node) (more : List (ℕ × ℕ)) (w : ℕ) → w ≡ weight_at z.net p.1 → w ≤ z.cap - z.weight → HasRoom u g places → HasGrown g h places more (weight_at z.net p.1) →
      IsLater u (record z { weight = z.weight + w }) g h places more
  weight_later h more w is within room grown =
      let small = (room_at room).small in
      subst (λ (k : UnfolderView). IsLater k (record z { weight = z.weight + w }) g h places more) same (record {
        net = refl;
        order = refl;
        cap = refl;
        memo = adds_none AnyEntry z.memo z.memo refl;
        grows = grown.grows;
        adds = grown.adds;
        nodes = omega (arith, grown.nodes, is);
        entries = omega (arith, grown.entries, is);
        small = omega (arith, within, small);
      })

  module _ (h : List Node) (more : List (ℕ × ℕ)) (w : ℕ) (x : Lit) (memo : List ((ℕ × ℕ) × Lit)) (put : memo ≡ z.memo ++ (p, x) ∷ []) (is : w ≡ weight_at z.net p.1) (within : w ≤ z.cap - z.weight)
      (grown : HasGrown g h places more (weight_at z.net p.1)) where
    pub put_holds : Holds u g places → IsReady u p → IsKnown z.net z.order z.cap h more p x.0 → Holds (record z { memo = memo; weight = z.weight + w }) h more
    put_holds holds ready known =
        one_holds z (record z { memo = memo; weight = z.weight + w }) g h places more p x refl refl refl refl put (ap (λ k. z.weight + k) is) grown (holds_at holds) (ready_as ready) known

    pub put_met : IsMet memo p
    put_met = (x, subst (λ (m : List ((ℕ × ℕ) × Lit)). Contains m (p, x)) (sym put) (Contains-push z.memo (p, x)))

    pub put_later : HasRoom u g places → IsLater u (record z { memo = memo; weight = z.weight + w }) g h places more
    put_later room =
        let small = (room_at room).small in
        subst (λ (k : UnfolderView). IsLater k (record z { memo = memo; weight = z.weight + w }) g h places more) same
        (one_later z (record z { memo = memo; weight = z.weight + w }) g h places more p x refl refl refl refl put (ap (λ k. z.weight + k) is) grown (omega (arith, within, small)))

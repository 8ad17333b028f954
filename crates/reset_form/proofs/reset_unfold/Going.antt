-- How an unfolder goes on: what stays, and what one place more brings.
use Rattle.std.proofs.Common.{◌≡◌, ◌≢◌, ◌∙◌, ◌+◌, ◌-◌, ◌<◌, ◌≤◌, ℕ, List, [], ◌∷◌, ◌++◌, length, map, get_or, slice_get, Some, refl, sym, ap, subst, arith, inl, inr}
use Rattle.std.specs.Prelude.{◌⊎◌}
use Rattle.std.specs.List.{All, AllPairs, Contains, sum_by}
use Rattle.std.proofs.lemmas.Bool.{cases_order, cases_lt}
use Rattle.std.proofs.lemmas.List.Elements.{All-contains, Contains-push, Contains-push_cases}
use Rattle.std.proofs.lemmas.List.Sums.{sum_by-append, sum_by-cons}
use Rattle.std.proofs.lemmas.Option.{same_Some, get_or_from_slice_get}
use Rattle.circuit_theory.proofs.Lists.{Contains-map, Contains-map_from, at_of, of_at}
use Rattle.flat_net.specs.View.{NetView, circuit_of}
use Rattle.flat_net.specs.Sound.{IsSound}
use Rattle.flat_net.proofs.Places.{All-at}
use Rattle.circuit_laws.specs.reset_laws.Weight.{ResetVisits, IsResetWeight, IsResetOver}
use Rattle.aig.specs.declared.node.Lit.{Lit}
use Rattle.aig.specs.declared.node.Node.{Node}
use Rattle.aig.proofs.Growth.{Grows-refl, Grows-trans}
use Rattle.cbf_unfold.specs.unfold_places.Places.{Steps, PlaceBefore}
use Rattle.flat_net.specs.Weights.{weight_at}
use Rattle.cbf_unfold.specs.unfold_places.Reach.{IsThere, IsMet}
use Rattle.cbf_unfold.specs.unfold_places.Growing.{HasGrown}
use Rattle.cbf_unfold.proofs.unfold_places.Lists.{adds_none, adds_trans, adds_push, adds_contains, pairs_at, sum_by-map}
use Rattle.cbf_unfold.proofs.unfold_places.Steps.{step_lower, step_within}
use Rattle.cbf_unfold.proofs.unfold_places.InputLists.{place_apart, pairs_push}
use Rattle.cbf_unfold.proofs.unfold_places.Growing.{Any}
use Rattle.reset_form.specs.reset_unfold.Places.{IsVisited, starts_of}
use Rattle.reset_form.specs.reset_unfold.Reach.{IsReach}
use Rattle.reset_form.specs.reset_unfold.View.{ResetView}
use Rattle.reset_form.specs.reset_unfold.Unfolded.{IsKnown, Holds}
use Rattle.reset_form.specs.reset_unfold.Building.{IsReady, HasRoom, IsLaterReset}
use Rattle.reset_form.proofs.reset_unfold.Known.{known_later}
use Rattle.reset_form.proofs.reset_unfold.Weighing.{over_from, weight_from}

abbrev AnyEntry : (ℕ × ℕ) × Lit → Type 0
AnyEntry e = Unit {0}

-- nothing happened
pub later_none : (u : ResetView) (g : List Node) (places : List (ℕ × ℕ)) → u.weight ≤ u.cap → IsLaterReset u u g g places places
later_none u g places small = record {
  net = refl;
  order = refl;
  base = refl;
  cap = refl;
  memo = adds_none AnyEntry u.memo u.memo refl;
  grows = Grows-refl g;
  adds = adds_none Any places places refl;
  nodes = omega arith;
  entries = omega arith;
  small = small;
}

pub later_trans : (u v w : ResetView) (g h k : List Node) (places more most : List (ℕ × ℕ)) → IsLaterReset u v g h places more → IsLaterReset v w h k more most → IsLaterReset u w g k places most
later_trans u v w g h k places more most a b = record {
  net = b.net ∙ a.net;
  order = b.order ∙ a.order;
  base = b.base ∙ a.base;
  cap = b.cap ∙ a.cap;
  memo = adds_trans AnyEntry u.memo v.memo w.memo a.memo b.memo;
  grows = Grows-trans g h k a.grows b.grows;
  adds = adds_trans Any places more most a.adds b.adds;
  nodes = omega (arith, a.nodes, b.nodes);
  entries = omega (arith, a.entries, b.entries);
  small = b.small;
}

pub room_later : (u v : ResetView) (g h : List Node) (places more : List (ℕ × ℕ)) → HasRoom u g places → IsLaterReset u v g h places more → HasRoom v h more
room_later u v g h places more room later = record {
  nodes = omega (arith, room.nodes, later.nodes, later.cap);
  entries = omega (arith, room.entries, later.entries, later.cap);
  small = later.small;
}

pub met_later : (u v : ResetView) (g h : List Node) (places more : List (ℕ × ℕ)) (p : ℕ × ℕ) → IsLaterReset u v g h places more → IsMet u.memo p → IsMet v.memo p
met_later u v g h places more p later met = (met.0, adds_contains AnyEntry u.memo v.memo (p, met.0) later.memo met.1)

-- what a visited place reads stands before it
pub stands_before : (n : NetView) → IsSound n → (memo : List ((ℕ × ℕ) × Lit)) (s : ℕ × ℕ) (reach : List (ℕ × ℕ)) → IsReach (circuit_of n) (length n.drivers) memo s reach → (i : ℕ) (p q : ℕ × ℕ) → slice_get reach i ≡ Some p →
    Steps (circuit_of n) p q → Contains reach q → (j : ℕ) × (j < i) × (slice_get reach j ≡ Some q)
stands_before n sound memo s reach is i p q here steps there =
    let at = at_of reach q there in
    (at.0, go at.0 at.1 (cases_order at.0 i), at.1)
  where
    lower : Steps (circuit_of n) p q → PlaceBefore q p
    lower (inl h) = inr (h.0, step_lower n sound p q h.1)
    lower (inr h) = inl (omega (arith, h.0))

    back : PlaceBefore p q → PlaceBefore q p → ⊥
    back (inl a) (inl b) = omega (arith, a, b)
    back (inl a) (inr b) = omega (arith, a, b.0)
    back (inr a) (inl b) = omega (arith, a.0, b)
    back (inr a) (inr b) = omega (arith, a.1, b.1)

    go : (j : ℕ) → slice_get reach j ≡ Some q → (j ≡ i) ⊎ ((j < i) ⊎ (i < j)) → j < i
    go j at (inl e) = absurd (place_apart q p (lower steps) (same_Some q p (sym at ∙ ap (slice_get reach) e ∙ here)))
    go j at (inr (inl l)) = l
    go j at (inr (inr l)) = absurd (back (pairs_at PlaceBefore reach i j p q is.ordered l here at) (lower steps))

-- the next place can be unfolded
pub ready_at : (u v : ResetView) (s : ℕ × ℕ) (reach : List (ℕ × ℕ)) → IsSound u.net → Contains u.done s → IsReach (circuit_of u.net) (length u.net.drivers) u.memo s reach → v.net ≡ u.net → v.done ≡ u.done → ((q : ℕ × ℕ) → IsMet u.memo q → IsMet v.memo q) →
    (i : ℕ) (p : ℕ × ℕ) → slice_get reach i ≡ Some p → ((j : ℕ) (q : ℕ × ℕ) → j < i → slice_get reach j ≡ Some q → IsMet v.memo q) → IsReady v p
ready_at u v s reach sound among is net done kept i p here met =
    let visited : IsVisited (circuit_of u.net) u.done p = record { from = s; among = among; visits = is.are.visited p (of_at reach i p here) } in
    record {
      visited = subst (λ (n : NetView). IsVisited (circuit_of n) v.done p) (sym net) (subst (λ (d : List (ℕ × ℕ)). IsVisited (circuit_of u.net) d p) (sym done) visited);
      within = subst (λ (n : NetView). p.1 < length n.drivers) (sym net) (All-at (λ q. q.1 < length u.net.drivers) reach i p here is.are.within);
      read = λ q steps. let own = subst (λ (n : NetView). Steps (circuit_of n) p q) net steps in reads q own (is.are.closed p q (of_at reach i p here) own);
    }
  where
    reads : (q : ℕ × ℕ) → Steps (circuit_of u.net) p q → IsThere u.memo reach q → IsMet v.memo q
    reads q steps (inl there) = let b = stands_before u.net sound u.memo s reach is i p q here steps there in met b.0 q b.1 b.2
    reads q steps (inr m) = kept q m

-- a place that a signal of the net visits is one of the net
pub visit_within : (n : NetView) → IsSound n → (s : ℕ × ℕ) → s.1 < length n.drivers → {q j : ℕ} → ResetVisits (circuit_of n) s.1 s.0 q j → q < length n.drivers
visit_within n sound s inside ResetVisits.itself = inside
visit_within n sound s inside (ResetVisits.reads {q = q} {r = r} {j = j} visits reads) = step_within n sound (0, q) (0, r) (inl (refl, reads)) (visit_within n sound s inside visits)
visit_within n sound s inside (ResetVisits.back {q = q} {next = next} {j = j} {name = name} visits latch) = step_within n sound (1, q) (0, next) (inr (refl, name, latch)) (visit_within n sound s inside visits)

module _ (u : ResetView) (sound : IsSound u.net) (g : List Node) (places : List (ℕ × ℕ)) (holds : Holds u g places) where
  -- the places that were met are visited
  pub entries_visited : (p : ℕ × ℕ) → Contains (map (λ e. e.0) u.memo) p → IsVisited (circuit_of u.net) u.done p × (p.1 < length u.net.drivers)
  entries_visited p h =
      let e = Contains-map_from (λ e. e.0) u.memo p h in
      let v = subst (IsVisited (circuit_of u.net) u.done) e.2 (holds.visited e.0.0 e.0.1 e.1) in
      (v, visit_within u.net sound v.from (All-contains (λ (s : ℕ × ℕ). s.1 < length u.net.drivers) u.done v.from holds.within v.among) v.visits)

  entries_weigh : sum_by (λ p. weight_at u.net p.1) (map (λ e. e.0) u.memo) ≡ u.weight
  entries_weigh = sum_by-map (λ p. weight_at u.net p.1) (λ (e : (ℕ × ℕ) × Lit). e.0) u.memo ∙ holds.counted

  -- with one place more they weigh too much
  pub place_over : AllPairs (λ p q. p ≢ q) (map (λ e. e.0) u.memo) → (p : ℕ × ℕ) → IsReady u p → (Contains (map (λ e. e.0) u.memo) p → ⊥) → u.weight ≤ u.cap → u.cap - u.weight < weight_at u.net p.1 → IsResetOver (circuit_of u.net) (starts_of u.done) u.cap
  place_over differ p ready absent small above =
      over_from u.net sound u.done (map (λ e. e.0) u.memo ++ p ∷ [])
      (pairs_push (λ x y. x ≢ y) (map (λ e. e.0) u.memo) p differ (λ y h e. absent (subst (Contains (map (λ e. e.0) u.memo)) e h)))
      (λ q h. pick q (Contains-push_cases (map (λ e. e.0) u.memo) p q h))
      u.cap
      (let first : sum_by (λ q. weight_at u.net q.1) (map (λ e. e.0) u.memo ++ p ∷ []) ≡ sum_by (λ q. weight_at u.net q.1) (map (λ e. e.0) u.memo) + sum_by (λ q. weight_at u.net q.1) (p ∷ []) = sum_by-append (λ q. weight_at u.net q.1) (map (λ e. e.0) u.memo) (p ∷ []) in
      let second : sum_by (λ q. weight_at u.net q.1) (p ∷ []) ≡ weight_at u.net p.1 + 0 = sum_by-cons (λ q. weight_at u.net q.1) p [] in
      omega (arith, first, second, entries_weigh, small, above))
    where
      pick : (q : ℕ × ℕ) → Contains (map (λ (e : (ℕ × ℕ) × Lit). e.0) u.memo) q ⊎ (p ≡ q) → IsVisited (circuit_of u.net) u.done q × (q.1 < length u.net.drivers)
      pick q (inl h) = entries_visited q h
      pick q (inr e) = subst (λ r. IsVisited (circuit_of u.net) u.done r × (r.1 < length u.net.drivers)) e (ready.visited, ready.within)

  -- where all that is visited has been met, they weigh what the unfoldings weigh
  pub places_weigh : AllPairs (λ p q. p ≢ q) (map (λ e. e.0) u.memo) → ((s p : ℕ × ℕ) → Contains u.done s → ResetVisits (circuit_of u.net) s.1 s.0 p.1 p.0 → IsMet u.memo p) →
      IsResetWeight (circuit_of u.net) (starts_of u.done) u.weight
  places_weigh differ met =
      weight_from u.net sound u.done (map (λ e. e.0) u.memo) differ entries_visited u.weight
      (λ s p among visits. let m = met s p among visits in Contains-map (λ (e : (ℕ × ℕ) × Lit). e.0) u.memo (p, m.0) m.1)
      entries_weigh

-- one place more has been met: `v` is the unfolder before it, with the weight that it has then
module _ (u v : ResetView) (g h : List Node) (places more : List (ℕ × ℕ)) (p : ℕ × ℕ) (x : Lit) (net : v.net ≡ u.net) (order : v.order ≡ u.order) (base : v.base ≡ u.base) (cap : v.cap ≡ u.cap) (done : v.done ≡ u.done)
    (memo : v.memo ≡ u.memo ++ (p, x) ∷ []) (weight : v.weight ≡ u.weight + weight_at u.net p.1) (grown : HasGrown g h places more (weight_at u.net p.1)) where
  pub one_later : v.weight ≤ v.cap → IsLaterReset u v g h places more
  one_later small = record {
    net = net;
    order = order;
    base = base;
    cap = cap;
    memo = adds_push AnyEntry u.memo v.memo (p, x) memo tt;
    grows = grown.grows;
    adds = grown.adds;
    nodes = omega (arith, grown.nodes, weight);
    entries = omega (arith, grown.entries, weight);
    small = small;
  }

  pub one_met : IsMet v.memo p
  one_met = (x, subst (λ (m : List ((ℕ × ℕ) × Lit)). Contains m (p, x)) (sym memo) (Contains-push u.memo (p, x)))

  -- the unfolder as it is before, with the new entry: `v`'s fields in place of `u`'s are the same
  pub one_holds : Holds u g places → IsReady u p → IsKnown u.net u.order u.base h more p x.0 → Holds v h more
  one_holds holds ready known = record {
    known = λ q y m. knows q y (Contains-push_cases u.memo (p, x) (q, y) (subst (λ (l : List ((ℕ × ℕ) × Lit)). Contains l (q, y)) memo m));
    visited = λ q y m. visits q y (Contains-push_cases u.memo (p, x) (q, y) (subst (λ (l : List ((ℕ × ℕ) × Lit)). Contains l (q, y)) memo m));
    within = subst (λ (n : NetView). All (λ (s : ℕ × ℕ). s.1 < length n.drivers) v.done) (sym net) (subst (λ (d : List (ℕ × ℕ)). All (λ (s : ℕ × ℕ). s.1 < length u.net.drivers) d) (sym done) holds.within);
    counted = counts;
  }
    where
      known_in : (q : ℕ × ℕ) (y : ℕ) → IsKnown u.net u.order u.base h more q y → IsKnown v.net v.order v.base h more q y
      known_in q y known =
          subst (λ (n : NetView). IsKnown n v.order v.base h more q y) (sym net)
          (subst (λ (o : List ℕ). IsKnown u.net o v.base h more q y) (sym order) (subst (λ (k : ℕ). IsKnown u.net u.order k h more q y) (sym base) known))

      knows : (q : ℕ × ℕ) (y : Lit) → Contains u.memo (q, y) ⊎ ◌≡◌ {A = (ℕ × ℕ) × Lit} (p, x) (q, y) → IsKnown v.net v.order v.base h more q y.0
      knows q y (inl m) = known_in q y.0 (known_later u.net u.order u.base g h places more q y.0 grown.grows grown.adds (holds.known q y m))
      knows q y (inr e) = known_in q y.0 (subst (λ (f : (ℕ × ℕ) × Lit). IsKnown u.net u.order u.base h more f.0 f.1.0) e known)

      visited_in : (q : ℕ × ℕ) → IsVisited (circuit_of u.net) u.done q → IsVisited (circuit_of v.net) v.done q
      visited_in q k =
          subst (λ (n : NetView). IsVisited (circuit_of n) v.done q) (sym net) (subst (λ (d : List (ℕ × ℕ)). IsVisited (circuit_of u.net) d q) (sym done) k)

      visits : (q : ℕ × ℕ) (y : Lit) → Contains u.memo (q, y) ⊎ ◌≡◌ {A = (ℕ × ℕ) × Lit} (p, x) (q, y) → IsVisited (circuit_of v.net) v.done q
      visits q y (inl m) = visited_in q (holds.visited q y m)
      visits q y (inr e) = visited_in q (subst (λ (f : (ℕ × ℕ) × Lit). IsVisited (circuit_of u.net) u.done f.0) e ready.visited)

      counts : sum_by (λ e. weight_at v.net e.0.1) v.memo ≡ v.weight
      counts =
          let sum : sum_by (λ (e : (ℕ × ℕ) × Lit). weight_at u.net e.0.1) (u.memo ++ (p, x) ∷ []) ≡ sum_by (λ (e : (ℕ × ℕ) × Lit). weight_at u.net e.0.1) u.memo + sum_by (λ (e : (ℕ × ℕ) × Lit). weight_at u.net e.0.1) ((p, x) ∷ []) =
          sum_by-append (λ (e : (ℕ × ℕ) × Lit). weight_at u.net e.0.1) u.memo ((p, x) ∷ []) in
          let last : sum_by (λ (e : (ℕ × ℕ) × Lit). weight_at u.net e.0.1) ((p, x) ∷ []) ≡ weight_at u.net p.1 + 0 = sum_by-cons (λ (e : (ℕ × ℕ) × Lit). weight_at u.net e.0.1) (p, x) [] in
          let total : sum_by (λ (e : (ℕ × ℕ) × Lit). weight_at u.net e.0.1) (u.memo ++ (p, x) ∷ []) ≡ v.weight = omega (arith, sum, last, holds.counted, weight) in
          ap (λ (n : NetView). sum_by (λ (e : (ℕ × ℕ) × Lit). weight_at n e.0.1) v.memo) net ∙ (ap (sum_by (λ (e : (ℕ × ℕ) × Lit). weight_at u.net e.0.1)) memo ∙ total)

-- the places so far, and one more
pub met_next : (u v : ResetView) (g h : List Node) (places more : List (ℕ × ℕ)) (reach : List (ℕ × ℕ)) (i : ℕ) (d : ℕ × ℕ) → i < length reach → IsLaterReset u v g h places more → IsMet v.memo (get_or reach i d) →
    ((j : ℕ) (q : ℕ × ℕ) → j < i → slice_get reach j ≡ Some q → IsMet u.memo q) → (j : ℕ) (q : ℕ × ℕ) → j < i + 1 → slice_get reach j ≡ Some q → IsMet v.memo q
met_next u v g h places more reach i d inside later here before j q below at = go (cases_lt j i)
  where
    go : (j < i) ⊎ (i ≤ j) → IsMet v.memo q
    go (inl l) = met_later u v g h places more q later (before j q l at)
    go (inr l) =
        let same : j ≡ i = omega arith in
        let one : get_or reach i d ≡ q = get_or_from_slice_get reach i q d (subst (λ (k : ℕ). slice_get reach k ≡ Some q) same at) in
        subst (IsMet v.memo) one here

-- the weight of a place is counted before it is unfolded
pub ready_weight : (u : ResetView) (weight : ℕ) (p : ℕ × ℕ) → IsReady u p → IsReady (record u { weight = weight }) p
ready_weight u weight p ready = record { visited = ready.visited; within = ready.within; read = ready.read }

-- what follows for the unfolder as a call has it, `z`, from what holds of the unfolder as it was passed, `u`
module _ (z u : ResetView) (same : z ≡ u) (g : List Node) (places : List (ℕ × ℕ)) (p : ℕ × ℕ) where
  pub holds_at : Holds u g places → Holds z g places
  holds_at h = subst (λ (k : ResetView). Holds k g places) (sym same) h

  pub ready_as : IsReady u p → IsReady z p
  ready_as h = subst (λ (k : ResetView). IsReady k p) (sym same) h

  pub room_at : HasRoom u g places → HasRoom z g places
  room_at h = subst (λ (k : ResetView). HasRoom k g places) (sym same) h

  pub over_at : IsSound z.net → Holds u g places → HasRoom u g places → AllPairs (λ p q. p ≢ q) (map (λ e. e.0) z.memo) → IsReady u p → (Contains (map (λ e. e.0) z.memo) p → ⊥) → z.cap - z.weight < weight_at z.net p.1 →
      IsResetOver (circuit_of u.net) (starts_of u.done) u.cap
  over_at sound holds room differ ready absent above =
      subst (λ (k : ResetView). IsResetOver (circuit_of k.net) (starts_of k.done) k.cap) same
      (place_over z sound g places (holds_at holds) differ p (ready_as ready) absent (room_at room).small above)

  pub weight_later : (h : List Node) (more : List (ℕ × ℕ)) (w : ℕ) → w ≡ weight_at z.net p.1 → w ≤ z.cap - z.weight → HasRoom u g places → HasGrown g h places more (weight_at z.net p.1) →
      IsLaterReset u (record z { weight = z.weight + w }) g h places more
  weight_later h more w is within room grown =
      let small = (room_at room).small in
      subst (λ (k : ResetView). IsLaterReset k (record z { weight = z.weight + w }) g h places more) same (record {
        net = refl;
        order = refl;
        base = refl;
        cap = refl;
        memo = adds_none AnyEntry z.memo z.memo refl;
        grows = grown.grows;
        adds = grown.adds;
        nodes = omega (arith, grown.nodes, is);
        entries = omega (arith, grown.entries, is);
        small = omega (arith, within, small);
      })

  module _ (h : List Node) (more : List (ℕ × ℕ)) (w : ℕ) (x : Lit) (memo : List ((ℕ × ℕ) × Lit)) (put : memo ≡ z.memo ++ (p, x) ∷ []) (is : w ≡ weight_at z.net p.1) (within : w ≤ z.cap - z.weight)
      (grown : HasGrown g h places more (weight_at z.net p.1)) where
    pub put_holds : Holds u g places → IsReady u p → IsKnown z.net z.order z.base h more p x.0 → Holds (record z { memo = memo; weight = z.weight + w }) h more
    put_holds holds ready known =
        one_holds z (record z { memo = memo; weight = z.weight + w }) g h places more p x refl refl refl refl refl put (ap (λ k. z.weight + k) is) grown (holds_at holds) (ready_as ready) known

    pub put_met : IsMet memo p
    put_met = (x, subst (λ (m : List ((ℕ × ℕ) × Lit)). Contains m (p, x)) (sym put) (Contains-push z.memo (p, x)))

    pub put_later : HasRoom u g places → IsLaterReset u (record z { memo = memo; weight = z.weight + w }) g h places more
    put_later room =
        let small = (room_at room).small in
        subst (λ (k : ResetView). IsLaterReset k (record z { memo = memo; weight = z.weight + w }) g h places more) same
        (one_later z (record z { memo = memo; weight = z.weight + w }) g h places more p x refl refl refl refl refl put (ap (λ k. z.weight + k) is) grown (omega (arith, within, small)))

-- Both graphs while pairs of latches are tried in turn, and what is chosen at the end.
use Rattle.std.proofs.Common.{◌≡◌, ◌≢◌, ℕ, zero, suc, ◌+◌, ◌<◌, ◌≤◌, Bool, true, false, List, [], ◌∷◌, ◌++◌, length, map, get_or, Some, refl, sym, ◌∙◌, ap, subst, arith, inl, inr}
use Rattle.std.specs.Prelude.{◌⊎◌, ◌||◌, slice_get, if◌then◌else◌}
use Rattle.std.specs.List.{All, Contains}
use Rattle.std.proofs.Math.ListN.{set}
use Rattle.std.proofs.lemmas.Option.{slice_get_within, slice_get-get_or, get_or_from_slice_get}
use Rattle.std.proofs.lemmas.Bool.{cases_order}
use Rattle.circuit_theory.specs.Depth.{HasCycle, without}
use Rattle.circuit_theory.proofs.Lists.{Contains-cases, Contains-map, at_of, map_at, length-map}
use Rattle.base_tables.specs.Table.{AreDistinct}
use Rattle.latch_graph.specs.minimal_cut.graph_components.flat_net.LatchAt.{LatchAt}
use Rattle.latch_graph.specs.minimal_cut.graph_components.flat_net.View.{NetView, circuit_of}
use Rattle.latch_graph.specs.minimal_cut.graph_components.flat_net.Cut.{no_latch}
use Rattle.latch_graph.proofs.minimal_cut.graph_components.flat_net.Places.{one_at, All-at}
use Rattle.latch_graph.proofs.minimal_cut.graph_components.flat_net.Growth.{slice_get-push_cases}
use Rattle.latch_graph.proofs.minimal_cut.graph_components.flat_net.CutNets.{few_distinct}
use Rattle.latch_graph.specs.minimal_cut.graph_components.Node.{Node}
use Rattle.latch_graph.specs.minimal_cut.graph_components.Graph.{GraphView, IsGraphOf, SkippedBy, AreNodes}
use Rattle.latch_graph.proofs.minimal_cut.graph_components.Lists.{AllPairs-from_at}
use Rattle.latch_graph.specs.declared.minimal_cut.marks.Mark.{Mark}
use Rattle.latch_graph.specs.declared.minimal_cut.marks.Mark.TheVariants.{Out}
use Rattle.latch_graph.specs.minimal_cut.Chosen.{IsFree, IsMinimalChoice, at_places, names_at}
use Rattle.latch_graph.specs.minimal_cut.Readers.{WayBack}
use Rattle.latch_graph.specs.minimal_cut.Marks.{IsBlocked, IsBlockedBut, AreMarks, IsPutBack, IsTried, signal_of}
use Rattle.latch_graph.specs.minimal_cut.Trying.{IsField, IsSide, IsNeeded, AreTried}
use Rattle.latch_graph.proofs.minimal_cut.WayLemmas.{way_map}
use Rattle.latch_graph.proofs.minimal_cut.Marking.{tried_if, marks_if, way_but}
use Rattle.latch_graph.proofs.minimal_cut.Edges.{cycle_ring, ring_cycle}
use Rattle.latch_graph.proofs.minimal_cut.Sides.{latch_of, signal_is, one_signal, signal_within, one_name, side_exposed, side_back, blocked_before}

-- positions that are distinct are fewer than signals
pub few_positions : (g : GraphView) → AreNodes g.nodes g.latches → (positions : List ℕ) → All (λ j. j < length g.latches) positions → AreDistinct positions → length positions ≤ length g.nodes
few_positions g are positions within distinct =
    let few = few_distinct (map (λ j. signal_of g.latches j) positions) (length g.nodes) once inside in
    omega (arith, few, length-map (λ j. signal_of g.latches j) positions)
  where
    in_graph : (i j : ℕ) → slice_get positions i ≡ Some j → j < length g.latches
    in_graph i j h = All-at (λ z. z < length g.latches) positions i j h within

    inside : (i s : ℕ) → slice_get (map (λ j. signal_of g.latches j) positions) i ≡ Some s → s < length g.nodes
    inside i s h = let x = map_at (λ j. signal_of g.latches j) positions i s h in subst (λ z. z < length g.nodes) x.2 (signal_within g are x.0 (in_graph i x.0 x.1))

    once : AreDistinct (map (λ j. signal_of g.latches j) positions)
    once i k s h m =
        let x = map_at (λ j. signal_of g.latches j) positions i s h in
        let y = map_at (λ j. signal_of g.latches j) positions k s m in
        let same : x.0 ≡ y.0 = one_signal g are x.0 y.0 (in_graph i x.0 x.1) (in_graph k y.0 y.1) (x.2 ∙ sym y.2) in
        distinct i k y.0 (subst (λ z. slice_get positions i ≡ Some z) same x.1) y.1

pub tried_none : (a b : GraphView) (lefts rights : List ℕ) (left right : List Mark) → IsSide a lefts 0 [] left → IsSide b rights 0 [] right → AreTried a b lefts rights 0 left right []
tried_none a b lefts rights left right on_left on_right = record {
  on_left = on_left;
  on_right = on_right;
  needed = λ i p j m h o q. absurd (nothing i p h);
  increasing = λ i j p q l h o. absurd (nothing i p h);
  below = λ i p h. absurd (nothing i p h);
}
  where
    nothing : (i p : ℕ) → slice_get [] i ≡ Some p → ⊥
    nothing i p h = let l = slice_get_within [] i p h in omega (arith, l)

module _ (a b : GraphView) (are_a : AreNodes a.nodes a.latches) (are_b : AreNodes b.nodes b.latches) (lefts rights : List ℕ) (within_a : All (λ j. j < length a.latches) lefts) (within_b : All (λ j. j < length b.latches) rights)
    (distinct_a : AreDistinct lefts) (distinct_b : AreDistinct rights) where
  -- one pair more
  module _ (k j m : ℕ) (at_left : slice_get lefts k ≡ Some j) (at_right : slice_get rights k ≡ Some m) (places : List ℕ) (left right new_left new_right : List Mark) (t : AreTried a b lefts rights k left right places)
      (table_left : AreMarks a.nodes new_left (k + 1 + 1)) (table_right : AreMarks b.nodes new_right (k + 1 + 1)) where
    older : (needed : Bool) → IsTried left new_left (signal_of a.latches j) needed → IsTried right new_right (signal_of b.latches m) needed →
        (i p u v : ℕ) → slice_get places i ≡ Some p → slice_get lefts p ≡ Some u → slice_get rights p ≡ Some v → IsNeeded a b new_left new_right u v
    older needed tried_left tried_right i p u v h o q = go (t.needed i p u v h o q)
      where
        go : IsNeeded a b left right u v → IsNeeded a b new_left new_right u v
        go (inl way) = inl (way_map a.nodes (IsBlockedBut left (signal_of a.latches u)) (IsBlockedBut new_left (signal_of a.latches u))
            (λ s x. (blocked_before a are_a lefts within_a distinct_a k j at_left places left new_left t.below t.on_left table_left needed tried_left s x.0, x.1)) way)
        go (inr way) = inr (way_map b.nodes (IsBlockedBut right (signal_of b.latches v)) (IsBlockedBut new_right (signal_of b.latches v))
            (λ s x. (blocked_before b are_b rights within_b distinct_b k m at_right places right new_right t.below t.on_right table_right needed tried_right s x.0, x.1)) way)

    with_it : IsTried left new_left (signal_of a.latches j) true → IsTried right new_right (signal_of b.latches m) true → IsNeeded a b new_left new_right j m → AreTried a b lefts rights (k + 1) new_left new_right (places ++ k ∷ [])
    with_it tried_left tried_right is_needed = record {
      on_left = side_exposed a are_a lefts within_a distinct_a k j at_left places left new_left t.below t.on_left table_left tried_left;
      on_right = side_exposed b are_b rights within_b distinct_b k m at_right places right new_right t.below t.on_right table_right tried_right;
      needed = λ i p u v h o q. needed i p u v o q (slice_get-push_cases places k i p h);
      increasing = λ i i' p q l h o. increasing i i' p q l (slice_get-push_cases places k i p h) (slice_get-push_cases places k i' q o);
      below = λ i p h. below i p (slice_get-push_cases places k i p h);
    }
      where
        needed : (i p u v : ℕ) → slice_get lefts p ≡ Some u → slice_get rights p ≡ Some v → (slice_get places i ≡ Some p) ⊎ ((i ≡ length places) × (k ≡ p)) → IsNeeded a b new_left new_right u v
        needed i p u v o q (inl h) = older true tried_left tried_right i p u v h o q
        needed i p u v o q (inr h) =
            let one : j ≡ u = one_at lefts k j u at_left (subst (λ z. slice_get lefts z ≡ Some u) (sym h.1) o) in
            let two : m ≡ v = one_at rights k m v at_right (subst (λ z. slice_get rights z ≡ Some v) (sym h.1) q) in
            subst (λ z. IsNeeded a b new_left new_right z v) one (subst (λ z. IsNeeded a b new_left new_right j z) two is_needed)

        increasing : (i i' p q : ℕ) → i < i' → (slice_get places i ≡ Some p) ⊎ ((i ≡ length places) × (k ≡ p)) → (slice_get places i' ≡ Some q) ⊎ ((i' ≡ length places) × (k ≡ q)) → p < q
        increasing i i' p q l (inl h) (inl o) = t.increasing i i' p q l h o
        increasing i i' p q l (inl h) (inr o) = let low = t.below i p h in omega (arith, low, o.1)
        increasing i i' p q l (inr h) (inl o) = absurd (let high = slice_get_within places i' q o in omega (arith, l, h.0, high))
        increasing i i' p q l (inr h) (inr o) = absurd (omega (arith, l, h.0, o.0))

        below : (i p : ℕ) → (slice_get places i ≡ Some p) ⊎ ((i ≡ length places) × (k ≡ p)) → p < k + 1
        below i p (inl h) = let low = t.below i p h in omega (arith, low)
        below i p (inr h) = omega (arith, h.1)

    without_it : IsTried left new_left (signal_of a.latches j) false → IsTried right new_right (signal_of b.latches m) false →
        (WayBack a.nodes (IsBlocked new_left) (signal_of a.latches j) (signal_of a.latches j) → ⊥) → (WayBack b.nodes (IsBlocked new_right) (signal_of b.latches m) (signal_of b.latches m) → ⊥) →
        AreTried a b lefts rights (k + 1) new_left new_right places
    without_it tried_left tried_right none_left none_right = record {
      on_left = side_back a are_a lefts within_a distinct_a k j at_left places left new_left t.below t.on_left table_left tried_left none_left;
      on_right = side_back b are_b rights within_b distinct_b k m at_right places right new_right t.below t.on_right table_right tried_right none_right;
      needed = older false tried_left tried_right;
      increasing = t.increasing;
      below = λ i p h. let low = t.below i p h in omega (arith, low);
    }

    pub tried_more : (needed : Bool) → IsTried left new_left (signal_of a.latches j) needed → IsTried right new_right (signal_of b.latches m) needed → (needed ≡ true → IsNeeded a b new_left new_right j m) →
        (needed ≡ false → WayBack a.nodes (IsBlocked new_left) (signal_of a.latches j) (signal_of a.latches j) → ⊥) → (needed ≡ false → WayBack b.nodes (IsBlocked new_right) (signal_of b.latches m) (signal_of b.latches m) → ⊥) →
        (after : List ℕ) → after ≡ (if needed then places ++ k ∷ [] else places) → AreTried a b lefts rights (k + 1) new_left new_right after
    tried_more true tried_left tried_right need none_left none_right after e = subst (λ z. AreTried a b lefts rights (k + 1) new_left new_right z) (sym e) (with_it tried_left tried_right (need refl))
    tried_more false tried_left tried_right need none_left none_right after e = subst (λ z. AreTried a b lefts rights (k + 1) new_left new_right z) (sym e) (without_it tried_left tried_right (none_left refl) (none_right refl))

-- the same, as a turn of the program tells it
module _ (a b : GraphView) (lefts rights : List ℕ) (inner_a inner_b readers_a readers_b : List Node) (field_a : IsField a lefts inner_a readers_a) (field_b : IsField b rights inner_b readers_b) (many : length rights ≡ length lefts) (k : ℕ) (inside : k < length lefts) (places : List ℕ)
    (left right mid_left mid_right : List Mark) (t : AreTried a b lefts rights k left right places) where
  abbrev u : ℕ
  u = signal_of a.latches (get_or lefts k 0)

  abbrev v : ℕ
  v = signal_of b.latches (get_or rights k 0)

  pub tried_turn : AreMarks a.nodes mid_left (k + 1 + 1) → AreMarks b.nodes mid_right (k + 1 + 1) → IsPutBack left mid_left u → IsPutBack right mid_right v → (in_left in_right : Bool) →
      (in_left ≡ true → WayBack a.nodes (IsBlocked mid_left) u u) → (in_left ≡ false → WayBack a.nodes (IsBlocked mid_left) u u → ⊥) →
      (in_right ≡ true → WayBack b.nodes (IsBlocked mid_right) v v) → (in_right ≡ false → WayBack b.nodes (IsBlocked mid_right) v v → ⊥) →
      (needed : Bool) → needed ≡ (in_left || in_right) → (new_left new_right : List Mark) (after : List ℕ) →
      new_left ≡ (if needed then set mid_left u Out else mid_left) → new_right ≡ (if needed then set mid_right v Out else mid_right) → after ≡ (if needed then places ++ k ∷ [] else places) →
      AreTried a b lefts rights (k + 1) new_left new_right after
  tried_turn table_left table_right back_left back_right in_left in_right yes_left no_left yes_right no_right needed needed_is new_left new_right after left_is right_is after_is =
      tried_more a b field_a.are field_b.are lefts rights field_a.within field_b.within field_a.once field_b.once k (get_or lefts k 0) (get_or rights k 0) at_left at_right
      places left right new_left new_right t (marks_if a.nodes mid_left new_left (k + 1 + 1) u needed table_left left_is) (marks_if b.nodes mid_right new_right (k + 1 + 1) v needed table_right right_is) needed
      (tried_if left mid_left new_left u needed back_left inside_left left_is) (tried_if right mid_right new_right v needed back_right inside_right right_is)
      (λ e. need in_left in_right yes_left yes_right (sym needed_is ∙ e))
      (λ e way. spare_left in_left in_right no_left (sym needed_is ∙ e) (unchanged a.nodes mid_left new_left needed e left_is way))
      (λ e way. spare_right in_left in_right no_right (sym needed_is ∙ e) (unchanged_right needed e right_is way)) after after_is
    where
      at_left : slice_get lefts k ≡ Some (get_or lefts k 0)
      at_left = slice_get-get_or lefts k 0 inside

      at_right : slice_get rights k ≡ Some (get_or rights k 0)
      at_right = slice_get-get_or rights k 0 (omega (arith, inside, many))

      inside_left : u < length mid_left
      inside_left = let l = signal_within a field_a.are (get_or lefts k 0) (All-at (λ z. z < length a.latches) lefts k (get_or lefts k 0) at_left field_a.within) in omega (arith, l, table_left.size)

      inside_right : v < length mid_right
      inside_right = let l = signal_within b field_b.are (get_or rights k 0) (All-at (λ z. z < length b.latches) rights k (get_or rights k 0) at_right field_b.within) in omega (arith, l, table_right.size)

      need : (x y : Bool) → (x ≡ true → WayBack a.nodes (IsBlocked mid_left) u u) → (y ≡ true → WayBack b.nodes (IsBlocked mid_right) v v) → (x || y) ≡ true → IsNeeded a b new_left new_right (get_or lefts k 0) (get_or rights k 0)
      need true y holds other e = inl (way_but a.nodes mid_left new_left u needed left_is (holds refl))
      need false y holds other e = inr (way_but b.nodes mid_right new_right v needed right_is (other e))

      unchanged : (nodes : List Node) (mid new : List Mark) (needed : Bool) → needed ≡ false → new ≡ (if needed then set mid u Out else mid) → WayBack nodes (IsBlocked new) u u → WayBack nodes (IsBlocked mid) u u
      unchanged nodes mid new true e is way = absurd (true_false e)
        where
          true_false : true ≡ false → ⊥
          true_false h = cc
      unchanged nodes mid new false e is way = subst (λ (z : List Mark). WayBack nodes (IsBlocked z) u u) is way

      unchanged_right : (needed : Bool) → needed ≡ false → new_right ≡ (if needed then set mid_right v Out else mid_right) → WayBack b.nodes (IsBlocked new_right) v v → WayBack b.nodes (IsBlocked mid_right) v v
      unchanged_right true e is way = absurd (true_false e)
        where
          true_false : true ≡ false → ⊥
          true_false h = cc
      unchanged_right false e is way = subst (λ (z : List Mark). WayBack b.nodes (IsBlocked z) v v) is way

      spare_left : (x y : Bool) → (x ≡ false → WayBack a.nodes (IsBlocked mid_left) u u → ⊥) → (x || y) ≡ false → WayBack a.nodes (IsBlocked mid_left) u u → ⊥
      spare_left true y fails e = absurd (cc)
      spare_left false y fails e = fails refl

      spare_right : (x y : Bool) → (y ≡ false → WayBack b.nodes (IsBlocked mid_right) v v → ⊥) → (x || y) ≡ false → WayBack b.nodes (IsBlocked mid_right) v v → ⊥
      spare_right true y fails e = absurd (cc)
      spare_right false y fails e = fails e

-- what stands in a list without one place
pub without_from : {X : Type 0} (ys : List X) (i : ℕ) (y : X) → Contains (without ys i) y → (q : ℕ) × (slice_get ys q ≡ Some y) × (q ≢ i)
without_from [] i y h = absurd (omega (arith, h.1))
without_from (x ∷ xs) zero y h = let p = at_of xs y h in (suc p.0, p.1, λ e. omega (arith, e))
without_from {X} (x ∷ xs) (suc i) y h = by (Contains-cases x y (without xs i) h) (λ k. without_from xs i y k)
  where
    by : (x ≡ y) ⊎ Contains (without xs i) y → (Contains (without xs i) y → (q : ℕ) × (slice_get xs q ≡ Some y) × (q ≢ i)) → (q : ℕ) × (slice_get (x ∷ xs) q ≡ Some y) × (q ≢ suc i)
    by (inl e) rest = (zero, ap Some e, λ z. omega (arith, z))
    by (inr k) rest = let r = rest k in (suc r.0, r.1, λ z. r.2 (omega (arith, z)))

-- one graph at the end
module _ (g : GraphView) (are : AreNodes g.nodes g.latches) (positions : List ℕ) (within : All (λ j. j < length g.latches) positions) (distinct : AreDistinct positions) (places : List ℕ) (marks : List Mark)
    (side : IsSide g positions (length positions) places marks) (below : (i p : ℕ) → slice_get places i ≡ Some p → p < length positions) where
  pub free_at_end : IsFree g (at_places positions places)
  free_at_end n of cycle =
      let ring = cycle_ring n g of (IsBlocked marks) (names_at g.latches (at_places positions places)) stand cycle in
      side.free n of ring.latch ring.within ring.free ring.way
    where
      stand : (s : ℕ) → IsBlocked marks s → (j : ℕ) × (l : LatchAt) × (slice_get g.latches j ≡ Some l) × (l.out.0 ≡ s) × Contains (names_at g.latches (at_places positions places)) l.name
      stand s b = let x = side.blocked s b in go x.0 x.1 x.2 x.3 x.4
        where
          go : (i j : ℕ) → slice_get positions i ≡ Some j → signal_of g.latches j ≡ s → (length positions ≤ i) ⊎ Contains places i →
              (j : ℕ) × (l : LatchAt) × (slice_get g.latches j ≡ Some l) × (l.out.0 ≡ s) × Contains (names_at g.latches (at_places positions places)) l.name
          go i j h is (inl l) = absurd (let m = slice_get_within positions i j h in omega (arith, l, m))
          go i j h is (inr c) =
              let inside = All-at (λ z. z < length g.latches) positions i j h within in
              let same : get_or positions i 0 ≡ j = get_or_from_slice_get positions i j 0 h in
              let among = subst (λ z. Contains (at_places positions places) z) same (Contains-map (λ z. get_or positions z 0) places i c) in
              (j, get_or g.latches j no_latch, latch_of g.latches j inside, is, Contains-map (λ z. (get_or g.latches z no_latch).name) (at_places positions places) j among)

  -- a latch that is needed closes a cycle
  pub cycle_at_end : ((i j p q : ℕ) → i < j → slice_get places i ≡ Some p → slice_get places j ≡ Some q → p < q) → (n : NetView) → IsGraphOf n g → (i p j : ℕ) → slice_get places i ≡ Some p → slice_get positions p ≡ Some j →
      WayBack g.nodes (IsBlockedBut marks (signal_of g.latches j)) (signal_of g.latches j) (signal_of g.latches j) → HasCycle (circuit_of n) (SkippedBy g) (without (names_at g.latches (at_places positions places)) i)
  cycle_at_end increasing n of i p j h o way =
      let inside = All-at (λ z. z < length g.latches) positions p j o within in
      ring_cycle n g of (IsBlockedBut marks (signal_of g.latches j)) (without (names_at g.latches (at_places positions places)) i) own j (get_or g.latches j no_latch) (latch_of g.latches j inside) (λ x. x.1 refl) way
    where
      one_place : (i i' p : ℕ) → slice_get places i ≡ Some p → slice_get places i' ≡ Some p → i ≡ i'
      one_place i i' p h o = go (cases_order i i')
        where
          go : (i ≡ i') ⊎ ((i < i') ⊎ (i' < i)) → i ≡ i'
          go (inl e) = e
          go (inr (inl l)) = absurd (let m = increasing i i' p p l h o in omega (arith, m))
          go (inr (inr l)) = absurd (let m = increasing i' i p p l o h in omega (arith, m))

      own : (u : ℕ) (l : LatchAt) → slice_get g.latches u ≡ Some l → Contains (without (names_at g.latches (at_places positions places)) i) l.name → IsBlockedBut marks (signal_of g.latches j) l.out.0
      own u l at c =
          let x = without_from (names_at g.latches (at_places positions places)) i l.name c in
          let named = map_at (λ (z : ℕ). (get_or g.latches z no_latch).name) (at_places positions places) x.0 l.name x.1 in
          let placed = map_at (λ (z : ℕ). get_or positions z 0) places x.0 named.0 named.1 in
          go x.0 placed.0 named.0 x.2 placed.1 placed.2 named.2
        where
          go : (q r v : ℕ) → q ≢ i → slice_get places q ≡ Some r → get_or positions r 0 ≡ v → (get_or g.latches v no_latch).name ≡ l.name → IsBlockedBut marks (signal_of g.latches j) l.out.0
          go q r v other placed is named =
              let here = position_at r v (below q r placed) is in
              let inside = All-at (λ z. z < length g.latches) positions r v here within in
              let same : v ≡ u = one_name n g of v u (get_or g.latches v no_latch) l (latch_of g.latches v inside) at named in
              let out : signal_of g.latches v ≡ l.out.0 = ap (λ z. signal_of g.latches z) same ∙ signal_is g.latches u l at in
              (subst (λ z. IsBlocked marks z) out (side.exposed q r v placed here), λ e. apart v here (out ∙ e))
            where
              position_at : (r v : ℕ) → r < length positions → get_or positions r 0 ≡ v → slice_get positions r ≡ Some v
              position_at r v l e = slice_get-get_or positions r 0 l ∙ ap Some e

              apart : (v : ℕ) → slice_get positions r ≡ Some v → signal_of g.latches v ≡ signal_of g.latches j → ⊥
              apart v here e =
                  let one : v ≡ j = one_signal g are v j (All-at (λ z. z < length g.latches) positions r v here within) (All-at (λ z. z < length g.latches) positions p j o within) e in
                  let two : r ≡ p = distinct r p j (subst (λ z. slice_get positions r ≡ Some z) one here) o in
                  other (one_place q i p (subst (λ z. slice_get places q ≡ Some z) two placed) h)

-- the choice at the end
pub is_minimal : (a b : GraphView) → AreNodes a.nodes a.latches → AreNodes b.nodes b.latches → (lefts rights : List ℕ) → All (λ j. j < length a.latches) lefts → All (λ j. j < length b.latches) rights → AreDistinct lefts → AreDistinct rights →
    length rights ≡ length lefts → (left right : List Mark) (places : List ℕ) → AreTried a b lefts rights (length lefts) left right places → IsMinimalChoice a b lefts rights places
is_minimal a b are_a are_b lefts rights within_a within_b distinct_a distinct_b many left right places t = record {
  increasing = AllPairs-from_at (λ j k. j < k) places (λ i j x y l h o. t.increasing i j x y l h o);
  within = λ i d l. t.below i (get_or places i d) (slice_get-get_or places i d l);
  left_free = free_at_end a are_a lefts within_a distinct_a places left t.on_left t.below;
  right_free = free_at_end b are_b rights within_b distinct_b places right on_right below_right;
  needed = λ m n of_a of_b i l. needed m n of_a of_b i (get_or places i 0) (slice_get-get_or places i 0 l);
}
  where
    on_right : IsSide b rights (length rights) places right
    on_right = subst (λ z. IsSide b rights z places right) (sym many) t.on_right

    below_right : (i p : ℕ) → slice_get places i ≡ Some p → p < length rights
    below_right i p h = let l = t.below i p h in omega (arith, l, many)

    needed : (m n : NetView) → IsGraphOf m a → IsGraphOf n b → (i p : ℕ) → slice_get places i ≡ Some p →
        HasCycle (circuit_of m) (SkippedBy a) (without (names_at a.latches (at_places lefts places)) i) ⊎ HasCycle (circuit_of n) (SkippedBy b) (without (names_at b.latches (at_places rights places)) i)
    needed m n of_a of_b i p h = go (t.needed i p (get_or lefts p 0) (get_or rights p 0) h at_left at_right)
      where
        at_left : slice_get lefts p ≡ Some (get_or lefts p 0)
        at_left = slice_get-get_or lefts p 0 (t.below i p h)

        at_right : slice_get rights p ≡ Some (get_or rights p 0)
        at_right = slice_get-get_or rights p 0 (below_right i p h)

        go : IsNeeded a b left right (get_or lefts p 0) (get_or rights p 0) →
            HasCycle (circuit_of m) (SkippedBy a) (without (names_at a.latches (at_places lefts places)) i) ⊎ HasCycle (circuit_of n) (SkippedBy b) (without (names_at b.latches (at_places rights places)) i)
        go (inl way) = inl (cycle_at_end a are_a lefts within_a distinct_a places left t.on_left t.below t.increasing m of_a i p (get_or lefts p 0) h at_left way)
        go (inr way) = inr (cycle_at_end b are_b rights within_b distinct_b places right on_right below_right t.increasing n of_b i p (get_or rights p 0) h at_right way)

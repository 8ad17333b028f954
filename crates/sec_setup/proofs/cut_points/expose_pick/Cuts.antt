-- A choice of pairs is a minimal cut of the circuits, and a cycle that is left shows that there is none.
use Rattle.std.proofs.Common.{◌≡◌, ℕ, zero, suc, ◌+◌, ◌<◌, List, length, get_or, Some, refl, sym, ◌∙◌, ap, subst, arith, inl, inr}
use Rattle.std.specs.Prelude.{◌⊎◌, slice_get}
use Rattle.std.specs.List.{All, Contains}
use Rattle.std.proofs.lemmas.Option.{slice_get_within, slice_get-get_or, get_or_from_slice_get}
use Rattle.std.proofs.lemmas.List.Elements.{All-contains}
use Rattle.circuit_theory.specs.declared.Mode.{Mode}
use Rattle.circuit_theory.specs.Circuit.{Circuit, Latch as latch_equation, IsLatch}
use Rattle.circuit_theory.specs.Depth.{LatchReads, LatchPath, HasCycle, IsCycle, after_in_round, without}
use Rattle.circuit_theory.specs.Agree.{EnabledIn, IsMinimalCut}
use Rattle.circuit_theory.proofs.Lists.{map_same, map-map, Contains-map, Contains-map_from, map_at, length-map}
use Rattle.latch_graph.specs.flat_net.LatchAt.{LatchAt}
use Rattle.latch_graph.specs.flat_net.View.{NetView, circuit_of, equation_of_gate, equation_of_latch}
use Rattle.latch_graph.specs.flat_net.Cut.{no_latch}
use Rattle.latch_graph.proofs.flat_net.Places.{one_at, All-at}
use Rattle.latch_graph.proofs.flat_net.Nets.{OfGate, OfLatch, equation_from, some_at, latch_stands}
use Rattle.latch_graph.specs.Graph.{GraphView, IsGraphOf, IsGraphIn, SkippedBy, signals_at}
use Rattle.latch_graph.proofs.Skipping.{has_cycle_less, skips_as_mode, mode_as_skips}
use Rattle.latch_graph.proofs.Trails.{after_last, after_next}
use Rattle.sec_setup.specs.declared.cut_points.expose_pick.pairs.LatchPair.{LatchPair}
use Rattle.latch_graph.specs.minimal_cut.Chosen.{IsMinimalChoice, at_places, names_at}
use Rattle.sec_setup.specs.cut_points.expose_pick.Pairs.{IsLeft, lefts, rights}
use Rattle.sec_setup.specs.cut_points.expose_pick.Laws.{HaveOneName, AreAllPairs}
use Rattle.sec_setup.proofs.cut_points.expose_pick.Removed.{cycle_fewer}

-- the latches of a list that is a cycle lead back to the first
module _ (c : Circuit ℕ) (enabled : ℕ → Type 0) (removed : List (List ℕ)) (latches : List ℕ) (round : IsCycle c enabled removed latches) where
  next_reads : (i u v : ℕ) → slice_get latches i ≡ Some u → slice_get latches (suc i) ≡ Some v → LatchReads c enabled removed v u
  next_reads i u v h k =
      let l = slice_get_within latches (suc i) v k in
      let next : after_in_round (length latches) i ≡ suc i = after_next (length latches) i (λ e. omega (arith, l, e)) ∙ (omega arith) in
      round.edges i u v h (subst (λ z. slice_get latches z ≡ Some v) (sym next) k)

  down : (i u v : ℕ) → slice_get latches 0 ≡ Some v → slice_get latches (suc i) ≡ Some u → LatchPath c enabled removed u v
  down zero u v h k = LatchPath.edge (next_reads 0 v u h k)
  down (suc i) u v h k =
      let l = slice_get_within latches (suc (suc i)) u k in
      let w = some_at latches (suc i) (omega (arith, l)) in
      LatchPath.step (next_reads (suc i) w.0 u w.1 k) (down i w.0 v h w.1)

  last_reads : (i u v : ℕ) → i + 1 ≡ length latches → slice_get latches i ≡ Some u → slice_get latches 0 ≡ Some v → LatchReads c enabled removed v u
  last_reads i u v e h k = round.edges i u v h (subst (λ z. slice_get latches z ≡ Some v) (sym (after_last (length latches) i e)) k)

  around : (n v : ℕ) → length latches ≡ suc n → slice_get latches 0 ≡ Some v → LatchPath c enabled removed v v
  around zero v e h = LatchPath.edge (last_reads 0 v v (omega (arith, e)) h h)
  around (suc n) v e h = let u = some_at latches (suc n) (omega (arith, e)) in LatchPath.step (last_reads (suc n) u.0 v (omega (arith, e)) u.1 h) (down n u.0 v h u.1)

  pub round_cycle : HasCycle c enabled removed
  round_cycle = let v = some_at latches 0 round.some in (v.0, at_length (length latches) v.0 refl round.some v.1)
    where
      at_length : (n v : ℕ) → length latches ≡ n → 0 < n → slice_get latches 0 ≡ Some v → LatchPath c enabled removed v v
      at_length zero v e l h = absurd (omega (arith, l))
      at_length (suc n) v e l h = around n v e h

-- the latch of the net that an equation is, in the graph
pub record IsNamed (g : GraphView) (name : List ℕ) : Type 0 where
  pub position : ℕ
  pub latch : LatchAt
  pub here : slice_get g.latches position ≡ Some latch
  pub name_is : latch.name ≡ name

latch_in_graph : (n : NetView) (g : GraphView) → IsGraphOf n g → (name : List ℕ) (u next : ℕ) → IsLatch (circuit_of n) name u next → IsNamed g name
latch_in_graph n g of name u next h = go (equation_from n (latch_equation name u next) h)
  where
    go : OfGate n (latch_equation name u next) ⊎ OfLatch n (latch_equation name u next) → IsNamed g name
    go (inl x) = absurd (gate_latch x.is)
      where
        gate_latch : equation_of_gate n.covers x.gate ≡ latch_equation name u next → ⊥
        gate_latch e = cc
    go (inr x) = record { position = x.j; latch = x.latch; here = subst (λ (z : List LatchAt). slice_get z x.j ≡ Some x.latch) (sym of.latches) x.at; name_is = same_name x.is }
      where
        same_name : equation_of_latch x.latch ≡ latch_equation name u next → x.latch.name ≡ name
        same_name e = cc

latch_in_net : (n : NetView) (g : GraphView) → IsGraphOf n g → (j : ℕ) → j < length g.latches → IsLatch (circuit_of n) (get_or g.latches j no_latch).name (get_or g.latches j no_latch).out.0 (get_or g.latches j no_latch).next.0
latch_in_net n g of j l = latch_stands n j (get_or g.latches j no_latch) (subst (λ (z : List LatchAt). slice_get z j ≡ Some (get_or g.latches j no_latch)) of.latches (slice_get-get_or g.latches j no_latch l))

module _ (mode : Mode) (m n : NetView) (a b : GraphView) (common : List LatchPair) (in_m : IsGraphIn mode m a) (in_n : IsGraphIn mode n b) where
  of_m : IsGraphOf m a
  of_m = in_m.graph

  of_n : IsGraphOf n b
  of_n = in_n.graph

  -- cycles of the graphs are cycles of the mode, and the other way round
  to_left : (names : List (List ℕ)) → HasCycle (circuit_of m) (SkippedBy a) names → HasCycle (circuit_of m) (EnabledIn mode (circuit_of m)) names
  to_left names h = has_cycle_less (circuit_of m) (SkippedBy a) (EnabledIn mode (circuit_of m)) (skips_as_mode mode m a in_m) names h

  to_right : (names : List (List ℕ)) → HasCycle (circuit_of n) (SkippedBy b) names → HasCycle (circuit_of n) (EnabledIn mode (circuit_of n)) names
  to_right names h = has_cycle_less (circuit_of n) (SkippedBy b) (EnabledIn mode (circuit_of n)) (skips_as_mode mode n b in_n) names h

  from_left : (names : List (List ℕ)) → HasCycle (circuit_of m) (EnabledIn mode (circuit_of m)) names → HasCycle (circuit_of m) (SkippedBy a) names
  from_left names h = has_cycle_less (circuit_of m) (EnabledIn mode (circuit_of m)) (SkippedBy a) (mode_as_skips mode m a in_m) names h

  from_right : (names : List (List ℕ)) → HasCycle (circuit_of n) (EnabledIn mode (circuit_of n)) names → HasCycle (circuit_of n) (SkippedBy b) names
  from_right names h = has_cycle_less (circuit_of n) (EnabledIn mode (circuit_of n)) (SkippedBy b) (mode_as_skips mode n b in_n) names h

  -- all names of latches of both circuits are those of pairs
  module _ (all : AreAllPairs a b common) (names : List (List ℕ)) (cut : IsMinimalCut mode (circuit_of m) (circuit_of n) names) where
    pair_of : (name : List ℕ) → Contains names name → (p : LatchPair) × Contains common p × ((get_or a.latches p.left no_latch).name ≡ name) × ((get_or b.latches p.right no_latch).name ≡ name)
    pair_of name h =
        let x = cut.common name h in
        let k = latch_in_graph m a of_m name x.0 x.1 x.4 in
        let l = latch_in_graph n b of_n name x.2 x.3 x.5 in
        let one = ap (λ (z : LatchAt). z.name) (get_or_from_slice_get a.latches k.position k.latch no_latch k.here) ∙ k.name_is in
        let two = ap (λ (z : LatchAt). z.name) (get_or_from_slice_get b.latches l.position l.latch no_latch l.here) ∙ l.name_is in
        (record { left = k.position; right = l.position }, all k.position l.position k.latch l.latch k.here l.here (k.name_is ∙ sym l.name_is), one, two)

    left_named : (name : List ℕ) → Contains names name → Contains (names_at a.latches (lefts common)) name
    left_named name h =
        let x = pair_of name h in
        subst (λ z. Contains (names_at a.latches (lefts common)) z) x.2 (Contains-map (λ (j : ℕ). (get_or a.latches j no_latch).name) (lefts common) x.0.left (Contains-map (λ (p : LatchPair). p.left) common x.0 x.1))

    right_named : (name : List ℕ) → Contains names name → Contains (names_at b.latches (rights common)) name
    right_named name h =
        let x = pair_of name h in
        subst (λ z. Contains (names_at b.latches (rights common)) z) x.3 (Contains-map (λ (j : ℕ). (get_or b.latches j no_latch).name) (rights common) x.0.right (Contains-map (λ (p : LatchPair). p.right) common x.0 x.1))

    pub left_refused : (ids : List ℕ) → IsLeft a (lefts common) ids → ⊥
    left_refused ids left =
        cut.left_free (to_left names (cycle_fewer (circuit_of m) (SkippedBy a) (names_at a.latches (lefts common)) names left_named (round_cycle (circuit_of m) (SkippedBy a) (names_at a.latches (lefts common)) (signals_at a.latches ids) (left.round m of_m))))

    pub right_refused : (ids : List ℕ) → IsLeft b (rights common) ids → ⊥
    right_refused ids left =
        cut.right_free (to_right names (cycle_fewer (circuit_of n) (SkippedBy b) (names_at b.latches (rights common)) names right_named (round_cycle (circuit_of n) (SkippedBy b) (names_at b.latches (rights common)) (signals_at b.latches ids) (left.round n of_n))))

  -- each pair is of latches of one name
  module _ (one_name : All (HaveOneName a b) common) (places : List ℕ) (choice : IsMinimalChoice a b (lefts common) (rights common) places) where
    abbrev names : List (List ℕ)
    names = names_at a.latches (at_places (lefts common) places)

    -- the pair at a place
    record IsPairAt (k : ℕ) : Type 0 where
      pair : LatchPair
      named : HaveOneName a b pair
      left : get_or (lefts common) k 0 ≡ pair.left
      right : get_or (rights common) k 0 ≡ pair.right

    pair_at : (k : ℕ) → Contains places k → IsPairAt k
    pair_at k h = record {
      pair = x.0;
      named = All-at (HaveOneName a b) common k x.0 x.1 one_name;
      left = get_or_from_slice_get (lefts common) k y.0 0 y.1 ∙ sym x.2;
      right = get_or_from_slice_get (rights common) k z.0 0 z.1 ∙ sym w.2 ∙ ap (λ (p : LatchPair). p.right) (one_at common k w.0 x.0 w.1 x.1);
    }
      where
        inside : k < length (lefts common)
        inside = All-contains (λ j. j < length (lefts common)) places k choice.within h

        y : (j : ℕ) × (slice_get (lefts common) k ≡ Some j)
        y = some_at (lefts common) k inside

        x : (p : LatchPair) × (slice_get common k ≡ Some p) × (p.left ≡ y.0)
        x = map_at (λ (p : LatchPair). p.left) common k y.0 y.1

        z : (j : ℕ) × (slice_get (rights common) k ≡ Some j)
        z = some_at (rights common) k (omega (arith, inside, length-map (λ (p : LatchPair). p.left) common, length-map (λ (p : LatchPair). p.right) common))

        w : (p : LatchPair) × (slice_get common k ≡ Some p) × (p.right ≡ z.0)
        w = map_at (λ (p : LatchPair). p.right) common k z.0 z.1

    same_name : (k : ℕ) → Contains places k → (get_or b.latches (get_or (rights common) k 0) no_latch).name ≡ (get_or a.latches (get_or (lefts common) k 0) no_latch).name
    same_name k h =
        let p = pair_at k h in
        ap (λ j. (get_or b.latches j no_latch).name) p.right ∙ sym p.named.name ∙ ap (λ j. (get_or a.latches j no_latch).name) (sym p.left)

    same_names : names_at b.latches (at_places (rights common) places) ≡ names
    same_names =
        map-map (λ (j : ℕ). (get_or b.latches j no_latch).name) (λ (k : ℕ). get_or (rights common) k 0) places
        ∙ map_same (λ (k : ℕ). (get_or b.latches (get_or (rights common) k 0) no_latch).name) (λ (k : ℕ). (get_or a.latches (get_or (lefts common) k 0) no_latch).name) places same_name
        ∙ sym (map-map (λ (j : ℕ). (get_or a.latches j no_latch).name) (λ (k : ℕ). get_or (lefts common) k 0) places)

    many : length names ≡ length places
    many = length-map (λ (j : ℕ). (get_or a.latches j no_latch).name) (at_places (lefts common) places) ∙ length-map (λ (k : ℕ). get_or (lefts common) k 0) places

    in_both : (name : List ℕ) → Contains names name → (u p : ℕ) × (v q : ℕ) × IsLatch (circuit_of m) name u p × IsLatch (circuit_of n) name v q
    in_both name h =
        let x = Contains-map_from (λ (j : ℕ). (get_or a.latches j no_latch).name) (at_places (lefts common) places) name h in
        let y = Contains-map_from (λ (k : ℕ). get_or (lefts common) k 0) places x.0 x.1 in
        let p = pair_at y.0 y.1 in
        let left : (get_or a.latches p.pair.left no_latch).name ≡ name = ap (λ j. (get_or a.latches j no_latch).name) (sym p.left ∙ y.2) ∙ x.2 in
        let right : (get_or b.latches p.pair.right no_latch).name ≡ name = sym p.named.name ∙ left in (
          (get_or a.latches p.pair.left no_latch).out.0,
          (get_or a.latches p.pair.left no_latch).next.0,
          (get_or b.latches p.pair.right no_latch).out.0,
          (get_or b.latches p.pair.right no_latch).next.0,
          subst (λ z. IsLatch (circuit_of m) z (get_or a.latches p.pair.left no_latch).out.0 (get_or a.latches p.pair.left no_latch).next.0) left (latch_in_net m a of_m p.pair.left p.named.left),
          subst (λ z. IsLatch (circuit_of n) z (get_or b.latches p.pair.right no_latch).out.0 (get_or b.latches p.pair.right no_latch).next.0) right (latch_in_net n b of_n p.pair.right p.named.right),
        )

    pub minimal_cut : IsMinimalCut mode (circuit_of m) (circuit_of n) names
    minimal_cut = record {
      common = in_both;
      left_free = λ cycle. choice.left_free m of_m (from_left names cycle);
      right_free = λ cycle. subst (λ (z : List (List ℕ)). HasCycle (circuit_of n) (SkippedBy b) z → ⊥) same_names (choice.right_free n of_n) (from_right names cycle);
      needed = λ i l. needed i (subst (λ (z : List (List ℕ)). HasCycle (circuit_of m) (SkippedBy a) (without names i) ⊎ HasCycle (circuit_of n) (SkippedBy b) (without z i)) same_names (choice.needed m n of_m of_n i (omega (arith, l, many))));
    }
      where
        needed : (i : ℕ) → HasCycle (circuit_of m) (SkippedBy a) (without names i) ⊎ HasCycle (circuit_of n) (SkippedBy b) (without names i) →
            HasCycle (circuit_of m) (EnabledIn mode (circuit_of m)) (without names i) ⊎ HasCycle (circuit_of n) (EnabledIn mode (circuit_of n)) (without names i)
        needed i (inl h) = inl (to_left (without names i) h)
        needed i (inr h) = inr (to_right (without names i) h)

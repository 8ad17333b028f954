-- The leaves of a signal's unfoldings, from cycle to cycle.
use Rattle.std.proofs.Common.{◌≡◌, ◌≢◌, ◌∙◌, ◌+◌, ◌-◌, ◌^◌, ◌<◌, ◌≤◌, ℕ, zero, suc, List, [], ◌∷◌, ◌++◌, length, take, get_or, slice_get, Some, refl, sym, ap, subst, arith, inl, inr}
use Rattle.std.specs.Prelude.{◌⊎◌}
use Rattle.std.specs.List.{All, AllPairs, Contains}
use Rattle.std.proofs.lemmas.Bool.{cases_lt}
use Rattle.std.proofs.lemmas.List.{take_more}
use Rattle.std.proofs.lemmas.List.Elements.{All-contains, Contains-append_left, Contains-push, Contains-push_cases}
use Rattle.std.proofs.lemmas.Option.{slice_get_within, slice_get-get_or}
use Rattle.circuit_theory.specs.Circuit.{Circuit}
use Rattle.circuit_theory.specs.Tree.{IsInputNumber}
use Rattle.circuit_theory.proofs.Lists.{All-from_each, at_of, of_at}
use Rattle.circuit_theory.proofs.Numbers.{beside_at}
use Rattle.flat_net.specs.View.{NetView, circuit_of}
use Rattle.flat_net.proofs.Growth.{slice_get-push_cases}
use Rattle.flat_net.proofs.Nets.{some_at}
use Rattle.flat_net.proofs.Places.{one_at}
use Rattle.base_tables.proofs.TableLemmas.{slice_get-take}
use Rattle.circuit_laws.specs.reset_laws.Weight.{ResetVisits}
use Rattle.cbf_unfold.specs.unfold_places.Places.{PlaceBefore}
use Rattle.cbf_unfold.proofs.unfold_places.InputLists.{pairs_push}
use Rattle.cbf_unfold.proofs.unfold_places.Lists.{pairs_at}
use Rattle.reset_form.specs.reset_unfold.Places.{IsLeafAt}
use Rattle.reset_form.specs.reset_unfold.Reach.{AreVisited, IsReach, AreLeavesOf, AreLeavesAt}
use Rattle.reset_form.specs.reset_unfold.Cone.{ConeView, IsCone, IsBlock, IsLaterLeaf, HasLater}
use Rattle.reset_form.proofs.reset_unfold.LeafLists.{reach_all}

module _ (c : Circuit ℕ) (s : ℕ) where
  -- what is visited from a cycle is visited from a later one as much later
  pub visits_up : (t d : ℕ) {p j : ℕ} → ResetVisits c s t p j → ResetVisits c s (t + d) p (j + d)
  visits_up t d ResetVisits.itself = ResetVisits.itself
  visits_up t d (ResetVisits.reads visits reads) = ResetVisits.reads (visits_up t d visits) reads
  visits_up t d (ResetVisits.back {q = q} {j = j} visits latch) =
      ResetVisits.back (subst (ResetVisits c s (t + d) q) (let e : suc j + d ≡ suc (j + d) = omega arith in e) (visits_up t d visits)) latch

  -- and the other way round
  pub visits_down : (t d : ℕ) {p m : ℕ} → ResetVisits c s (t + d) p m → (j : ℕ) → m ≡ j + d → ResetVisits c s t p j
  visits_down t d ResetVisits.itself j e = subst (ResetVisits c s t s) (let k : t ≡ j = omega (arith, e) in k) ResetVisits.itself
  visits_down t d (ResetVisits.reads visits reads) j e = ResetVisits.reads (visits_down t d visits j e) reads
  visits_down t d (ResetVisits.back visits latch) j e = ResetVisits.back (visits_down t d visits (suc j) (omega (arith, e))) latch

  -- nothing later is visited
  pub visits_earlier : (t : ℕ) {p j : ℕ} → ResetVisits c s t p j → j ≤ t
  visits_earlier t ResetVisits.itself = omega arith
  visits_earlier t (ResetVisits.reads visits reads) = visits_earlier t visits
  visits_earlier t (ResetVisits.back visits latch) = let l = visits_earlier t visits in omega (arith, l)

-- a cone of which nothing has been unfolded
pub cone_first : (n : NetView) (order : List ℕ) (base s last : ℕ) (visited : List (ℕ × ℕ)) → s < length n.drivers → IsReach (circuit_of n) (length n.drivers) [] (last, s) visited →
    IsCone n order base (record { signal = s; last = last; next = 0; visited = visited; front = length visited; found = [] })
cone_first n order base s last visited inside is = record {
  within = inside;
  visited = is.are;
  ordered = is.ordered;
  front_in = omega arith;
  early = λ i p below at. let l = visits_earlier (circuit_of n) s last (is.are.visited p (of_at visited i p at)) in omega (arith, l);
  late = λ i p above at. absurd (let k = slice_get_within visited i p at in omega (arith, above, k));
  first = λ e. refl;
  leaves = λ t e. absurd (omega (arith, e));
  leaves_ordered = λ i j d below within. absurd (omega (arith, within));
}

-- what is made so far of a block
abbrev pub IsFront : List (ℕ × ℕ) → ℕ → List (ℕ × ℕ) → Type 0
IsFront visited from block = (i : ℕ) (q : ℕ × ℕ) → slice_get block i ≡ Some q → (p : ℕ × ℕ) × (slice_get visited (from + i) ≡ Some p) × (q ≡ (0, p.1))

-- one place more
pub front_next : (visited : List (ℕ × ℕ)) (from i : ℕ) (d : ℕ × ℕ) (block made : List (ℕ × ℕ)) → from + length block ≡ i → i < length visited → made ≡ block ++ (0, (get_or visited i d).1) ∷ [] → IsFront visited from block → IsFront visited from made
front_next visited from i d block made size inside is front k q at = go (slice_get-push_cases block x k q (subst (λ (l : List (ℕ × ℕ)). slice_get l k ≡ Some q) is at))
  where
    x : ℕ × ℕ
    x = (0, (get_or visited i d).1)

    go : (slice_get block k ≡ Some q) ⊎ ((k ≡ length block) × (x ≡ q)) → (p : ℕ × ℕ) × (slice_get visited (from + k) ≡ Some p) × (q ≡ (0, p.1))
    go (inl old) = front k q old
    go (inr (last, same)) =
        let place : i ≡ from + k = omega (arith, size, last) in
        (get_or visited i d, ap (slice_get visited) (sym place) ∙ slice_get-get_or visited i d inside, sym same)

-- The places of the next cycle that lie in cycle 0.
module _ (n : NetView) (order : List ℕ) (base : ℕ) (k : ConeView) (is : IsCone n order base k) (next_in : k.next ≤ k.last) (cycle : ℕ) (cycle_is : cycle + k.next ≡ k.last) (block : List (ℕ × ℕ)) (b : IsBlock k.visited k.front cycle block) where
  abbrev c : Circuit ℕ
  c = circuit_of n

  -- those in front of them lie earlier
  pub earlier : (i : ℕ) (p : ℕ × ℕ) → i < b.from → slice_get k.visited i ≡ Some p → p.0 < cycle
  earlier i p below at = go (cases_lt (i + 1) b.from)
    where
      w : (x : ℕ × ℕ) × (slice_get k.visited (b.from - 1) ≡ Some x)
      w = some_at k.visited (b.from - 1) (let l = b.start.before in let m = is.front_in in omega (arith, below, l, m))

      w_early : w.0.0 < cycle
      w_early =
          let near = is.early (b.from - 1) w.0 (let l = b.start.before in omega (arith, below, l)) w.1 in
          let apart = b.start.other (b.from - 1) w.0 (omega (arith, below)) w.1 in
          less (omega (arith, near, cycle_is)) apart
        where
          less : w.0.0 ≤ cycle → w.0.0 ≢ cycle → w.0.0 < cycle
          less l apart = omega (arith, l, apart)

      go : (i + 1 < b.from) ⊎ (b.from ≤ i + 1) → p.0 < cycle
      go (inl l) = pick (pairs_at PlaceBefore k.visited i (b.from - 1) p w.0 is.ordered (omega (arith, l)) at w.1)
        where
          pick : PlaceBefore p w.0 → p.0 < cycle
          pick (inl h) = let m = w_early in omega (arith, h, m)
          pick (inr h) = let m = w_early in omega (arith, h.0, m)
      go (inr l) =
          let same : i ≡ b.from - 1 = omega (arith, l, below) in
          let one : p ≡ w.0 = one_at k.visited (b.from - 1) p w.0 (ap (slice_get k.visited) (sym same) ∙ at) w.1 in
          subst (λ (q : ℕ × ℕ). q.0 < cycle) (sym one) w_early

  -- a place of the block is one that is visited
  pub block_from : (q : ℕ × ℕ) → Contains block q → (q.0 ≡ 0) × Contains k.visited (cycle, q.1)
  block_from q h =
      let at = at_of block q h in
      let e = b.each at.0 q at.1 in
      let inside = slice_get_within block at.0 q at.1 in
      let long = b.size in
      let of = b.start.same (b.from + at.0) e.0 (omega arith) (omega (arith, inside, long)) e.1 in
      let place : e.0 ≡ (cycle, q.1) = (λ i. (of i, ap (λ (r : ℕ × ℕ). r.1) (sym e.2) i)) in
      (ap (λ (r : ℕ × ℕ). r.0) e.2, subst (Contains k.visited) place (of_at k.visited (b.from + at.0) e.0 e.1))

  -- and each that lies in the cycle is in the block
  pub block_has : (p : ℕ) → Contains k.visited (cycle, p) → Contains block (0, p)
  block_has p h =
      let at = at_of k.visited (cycle, p) h in
      let low = not_before at.0 at.1 (cases_lt at.0 b.from) in
      let high = not_behind at.0 at.1 (cases_lt at.0 k.front) in
      let long = b.size in
      let q = some_at block (at.0 - b.from) (omega (arith, low, high, long)) in
      let e = b.each (at.0 - b.from) q.0 q.1 in
      let place : b.from + (at.0 - b.from) ≡ at.0 = omega (arith, low) in
      let one : e.0 ≡ (cycle, p) = one_at k.visited at.0 e.0 (cycle, p) (ap (slice_get k.visited) (sym place) ∙ e.1) at.1 in
      let same : q.0 ≡ (0, p) = e.2 ∙ ap (λ (r : ℕ × ℕ). (0, r.1)) one in
      subst (Contains block) same (of_at block (at.0 - b.from) q.0 q.1)
    where
      not_before : (i : ℕ) → slice_get k.visited i ≡ Some (cycle, p) → (i < b.from) ⊎ (b.from ≤ i) → b.from ≤ i
      not_before i at (inl l) = absurd (let m = earlier i (cycle, p) l at in omega (arith, m))
      not_before i at (inr l) = l

      not_behind : (i : ℕ) → slice_get k.visited i ≡ Some (cycle, p) → (i < k.front) ⊎ (k.front ≤ i) → i < k.front
      not_behind i at (inl l) = l
      not_behind i at (inr l) = absurd (let m = is.late i (cycle, p) l at in omega (arith, m, cycle_is))

  pub block_within : All (λ (q : ℕ × ℕ). q.1 < length n.drivers) block
  block_within = All-from_each (λ (q : ℕ × ℕ). q.1 < length n.drivers) block (λ q h. All-contains (λ (p : ℕ × ℕ). p.1 < length n.drivers) k.visited (cycle, q.1) is.visited.within (block_from q h).1)

  pub block_ordered : AllPairs PlaceBefore block
  block_ordered i j d below within =
      let x = b.each i (get_or block i d) (slice_get-get_or block i d (omega (arith, below, within))) in
      let y = b.each j (get_or block j d) (slice_get-get_or block j d within) in
      let long = b.size in
      let ex = b.start.same (b.from + i) x.0 (omega arith) (omega (arith, below, within, long)) x.1 in
      let ey = b.start.same (b.from + j) y.0 (omega arith) (omega (arith, within, long)) y.1 in
      let before : PlaceBefore x.0 y.0 = pairs_at PlaceBefore k.visited (b.from + i) (b.from + j) x.0 y.0 is.ordered (omega (arith, below)) x.1 y.1 in
      subst (λ (q : ℕ × ℕ). PlaceBefore (get_or block i d) q) (sym y.2) (subst (λ (q : ℕ × ℕ). PlaceBefore q (0, y.0.1)) (sym x.2) (inr (refl, signals before ex ey)))
    where
      signals : {x y : ℕ × ℕ} → PlaceBefore x y → x.0 ≡ cycle → y.0 ≡ cycle → x.1 < y.1
      signals (inl h) e f = absurd (omega (arith, h, e, f))
      signals (inr h) e f = h.1

  -- their leaves lie in cycle 0
  pub here_first : (here : List (ℕ × ℕ)) → AreLeavesOf c order base block here → All (λ (x : ℕ × ℕ). x.0 ≡ 0) here
  here_first here are = All-from_each (λ (x : ℕ × ℕ). x.0 ≡ 0) here (λ x h. let f = are.from x h in (block_from (x.0, f.0) f.1).0)

  -- the leaves before lie early enough
  pub found_small : k.last < 2 ^ 32 → All (λ (y : ℕ × ℕ). y.0 + 1 < 2 ^ 32) k.found
  found_small small = All-from_each (λ (y : ℕ × ℕ). y.0 + 1 < 2 ^ 32) k.found (λ y h. go k.next refl y h)
    where
      go : (t : ℕ) → k.next ≡ t → (y : ℕ × ℕ) → Contains k.found y → y.0 + 1 < 2 ^ 32
      go zero e y h = absurd (let none = subst (λ (l : List (ℕ × ℕ)). Contains l y) (is.first e) h in omega (arith, none.1))
      go (suc t) e y h =
          let f = (is.leaves t (omega (arith, e))).from y h in
          let l = visits_earlier c k.signal t f.2 in
          omega (arith, l, e, next_in, small)

  -- the leaves in the next cycle
  pub leaves_next : (inputs_below : All (λ i. i < base) order) (here found : List (ℕ × ℕ)) → AreLeavesOf c order base block here → HasLater k.found base here found → AreLeavesAt c order base (k.next, k.signal) found
  leaves_next inputs_below here found are later = record { from = λ x h. back x ((later x).0 h); all = all }
    where
      Of : ℕ × ℕ → Type 0
      Of x = (p : ℕ) × IsLeafAt c order base (x.0, p) x.1 × ResetVisits c k.signal k.next p x.0

      input_of : (y p : ℕ) (number : ℕ) → number < base → IsLeafAt c order base (y, p) number → IsInputNumber c order p number
      input_of y p number below (inl h) = h
      input_of y p number below (inr h) = absurd (let e = h.4 in omega (arith, e, below))

      moved : (t : ℕ) → k.next ≡ t → (y : ℕ × ℕ) → Contains k.found y → y.1 < base → Of (y.0 + 1, y.1)
      moved zero e y h below = absurd (let none = subst (λ (l : List (ℕ × ℕ)). Contains l y) (is.first e) h in omega (arith, none.1))
      moved (suc t) e y h below =
          let f = (is.leaves t (omega (arith, e))).from y h in
          (f.0, inl (input_of y.0 f.0 y.1 below f.1), subst (λ (m : ℕ). ResetVisits c k.signal m f.0 (y.0 + 1)) (let z : t + 1 ≡ k.next = omega (arith, e) in z) (visits_up c k.signal t 1 f.2))

      back : (x : ℕ × ℕ) → Contains here x ⊎ IsLaterLeaf k.found base x → Of x
      back x (inl h) =
          let f = are.from x h in
          let g = block_from (x.0, f.0) f.1 in
          let visits : ResetVisits c k.signal k.last f.0 cycle = is.visited.visited (cycle, f.0) g.1 in
          let above : ResetVisits c k.signal (k.next + cycle) f.0 cycle = subst (λ (m : ℕ). ResetVisits c k.signal m f.0 cycle) (let z : k.last ≡ k.next + cycle = omega (arith, cycle_is) in z) visits in
          (f.0, f.2, visits_down c k.signal k.next cycle above x.0 (omega (arith, g.0)))
      back x (inr (y, h, below, e)) = subst Of (sym e) (moved k.next refl y h below)

      first_of : (p number : ℕ) → ResetVisits c k.signal k.next p 0 → IsLeafAt c order base (0, p) number → Contains found (0, number)
      first_of p number visits leaf =
          let above : ResetVisits c k.signal (k.next + cycle) p (0 + cycle) = visits_up c k.signal k.next cycle visits in
          let last : ResetVisits c k.signal k.last p cycle =
          subst (λ (m : ℕ). ResetVisits c k.signal m p cycle) (let z : k.next + cycle ≡ k.last = omega (arith, cycle_is) in z) (subst (ResetVisits c k.signal (k.next + cycle) p) (let z : 0 + cycle ≡ cycle = omega arith in z) above) in
          let in_block = block_has p (reach_all c (length n.drivers) (k.last, k.signal) k.visited is.visited last) in
          (later (0, number)).1 (inl (are.all (0, p) number in_block leaf))

      number_below : (p number : ℕ) → IsInputNumber c order p number → number < base
      number_below p number h = let b = beside_at c.inputs order p number h in All-contains (λ i. i < base) order number inputs_below (of_at order b.0 number b.4)

      later_of : (t : ℕ) → k.next ≡ t → (p number j : ℕ) → ResetVisits c k.signal k.next p (suc j) → IsInputNumber c order p number → Contains found (suc j, number)
      later_of zero e p number j visits leaf = absurd (let l = visits_earlier c k.signal k.next visits in omega (arith, l, e))
      later_of (suc t) e p number j visits leaf =
          let below : ResetVisits c k.signal t p j = visits_down c k.signal t 1 (subst (λ (m : ℕ). ResetVisits c k.signal m p (suc j)) (let z : k.next ≡ t + 1 = omega (arith, e) in z) visits) j (omega arith) in
          let old = (is.leaves t (omega (arith, e))).all p number j below (inl leaf) in
          (later (suc j, number)).1 (inr ((j, number), old, number_below p number leaf, λ i. ((let z : suc j ≡ j + 1 = omega arith in z) i, number)))

      all : (p number j : ℕ) → ResetVisits c k.signal k.next p j → IsLeafAt c order base (j, p) number → Contains found (j, number)
      all p number zero visits leaf = first_of p number visits leaf
      all p number (suc j) visits (inl leaf) = later_of k.next refl p number j visits leaf
      all p number (suc j) visits (inr leaf) = absurd (let e = leaf.0 in omega (arith, e))

  -- the cone of the cycle after
  pub cone_next : (inputs_below : All (λ i. i < base) order) (here : List (ℕ × ℕ)) (v : ConeView) → AreLeavesOf c order base block here → v.signal ≡ k.signal → v.last ≡ k.last → v.next ≡ k.next + 1 → v.visited ≡ k.visited → v.front ≡ k.front - length block →
      HasLater k.found base here v.found → AllPairs PlaceBefore v.found → IsCone n order base v
  cone_next inputs_below here v are signal last next visited front later ordered = record {
    within = subst (λ (m : ℕ). m < length n.drivers) (sym signal) is.within;
    visited =
        subst (λ (m : ℕ). AreVisited c (length n.drivers) (v.last, m) v.visited) (sym signal)
        (subst (λ (m : ℕ). AreVisited c (length n.drivers) (m, k.signal) v.visited) (sym last) (subst (AreVisited c (length n.drivers) (k.last, k.signal)) (sym visited) is.visited));
    ordered = subst (AllPairs PlaceBefore) (sym visited) is.ordered;
    front_in = let l = is.front_in in omega (arith, front, l, ap length visited);
    early = λ i p below at. let l = earlier i p (let e = from_is in omega (arith, below, e)) (subst (λ (ps : List (ℕ × ℕ)). slice_get ps i ≡ Some p) visited at) in omega (arith, l, next, last, cycle_is);
    late = λ i p above at. behind i p (let e = from_is in omega (arith, above, e)) (subst (λ (ps : List (ℕ × ℕ)). slice_get ps i ≡ Some p) visited at) (cases_lt i k.front);
    first = λ e. absurd (omega (arith, e, next));
    leaves = λ t e.
        subst (λ (m : ℕ). AreLeavesAt c order base (m, v.signal) v.found) (let z : k.next ≡ t = omega (arith, e, next) in z)
        (subst (λ (m : ℕ). AreLeavesAt c order base (k.next, m) v.found) (sym signal) (leaves_next inputs_below here v.found are later));
    leaves_ordered = ordered;
  }
    where
      from_is : v.front ≡ b.from
      from_is = let e = b.size in omega (arith, front, e)

      behind : (i : ℕ) (p : ℕ × ℕ) → b.from ≤ i → slice_get k.visited i ≡ Some p → (i < k.front) ⊎ (k.front ≤ i) → v.last < p.0 + v.next
      behind i p above at (inl l) = let e = b.start.same i p above l at in omega (arith, e, next, last, cycle_is)
      behind i p above at (inr l) = let m = is.late i p l at in omega (arith, m, next, last)

-- The leaves that are added: those of some first ones.
module _ (before : List (ℕ × ℕ)) (base : ℕ) (old : List (ℕ × ℕ)) where
  pub later_none : HasLater (take 0 before) base old old
  later_none x = (λ h. inl h, λ h. only h)
    where
      only : Contains old x ⊎ IsLaterLeaf (take 0 before) base x → Contains old x
      only (inl h) = h
      only (inr h) = absurd (let k = h.1 in omega (arith, k.1))

  module _ (i : ℕ) (d : ℕ × ℕ) (inside : i < length before) where
    abbrev y : ℕ × ℕ
    y = get_or before i d

    first : (z : ℕ × ℕ) → Contains (take (i + 1) before) z → Contains (take i before) z ⊎ (y ≡ z)
    first z h = Contains-push_cases (take i before) y z (subst (λ (l : List (ℕ × ℕ)). Contains l z) (take_more before i d inside) h)

    more : (z : ℕ × ℕ) → Contains (take i before) z → Contains (take (i + 1) before) z
    more z h = subst (λ (l : List (ℕ × ℕ)). Contains l z) (sym (take_more before i d inside)) (Contains-append_left (take i before) (y ∷ []) z h)

    own : Contains (take (i + 1) before) y
    own = subst (λ (l : List (ℕ × ℕ)). Contains l y) (sym (take_more before i d inside)) (Contains-push (take i before) y)

    wider : (x : ℕ × ℕ) → IsLaterLeaf (take i before) base x → IsLaterLeaf (take (i + 1) before) base x
    wider x h = (h.0, more h.0 h.1, h.2, h.3)

    -- a leaf of a latch isn't added
    pub later_skip : (found : List (ℕ × ℕ)) → base ≤ y.1 → HasLater (take i before) base old found → HasLater (take (i + 1) before) base old found
    later_skip found above has x = (λ h. on ((has x).0 h), λ h. (has x).1 (back h))
      where
        on : Contains old x ⊎ IsLaterLeaf (take i before) base x → Contains old x ⊎ IsLaterLeaf (take (i + 1) before) base x
        on (inl h) = inl h
        on (inr h) = inr (wider x h)

        narrow : (z : ℕ × ℕ) → z.1 < base → x ≡ (z.0 + 1, z.1) → Contains (take i before) z ⊎ (y ≡ z) → IsLaterLeaf (take i before) base x
        narrow z below e (inl h) = (z, h, below, e)
        narrow z below e (inr s) = absurd (let f = ap (λ (r : ℕ × ℕ). r.1) s in omega (arith, f, below, above))

        back : Contains old x ⊎ IsLaterLeaf (take (i + 1) before) base x → Contains old x ⊎ IsLaterLeaf (take i before) base x
        back (inl h) = inl h
        back (inr h) = inr (narrow h.0 h.2 h.3 (first h.0 h.1))

    -- a leaf of an input is
    pub later_push : (found made : List (ℕ × ℕ)) → y.1 < base → made ≡ found ++ (y.0 + 1, y.1) ∷ [] → HasLater (take i before) base old found → HasLater (take (i + 1) before) base old made
    later_push found made below is has x =
        (λ h. on (Contains-push_cases found (y.0 + 1, y.1) x (subst (λ (l : List (ℕ × ℕ)). Contains l x) is h)), λ h. subst (λ (l : List (ℕ × ℕ)). Contains l x) (sym is) (back h))
      where
        wide : Contains old x ⊎ IsLaterLeaf (take i before) base x → Contains old x ⊎ IsLaterLeaf (take (i + 1) before) base x
        wide (inl h) = inl h
        wide (inr h) = inr (wider x h)

        on : Contains found x ⊎ ((y.0 + 1, y.1) ≡ x) → Contains old x ⊎ IsLaterLeaf (take (i + 1) before) base x
        on (inl h) = wide ((has x).0 h)
        on (inr e) = inr (y, own, below, sym e)

        kept : Contains found x → Contains (found ++ (y.0 + 1, y.1) ∷ []) x
        kept h = Contains-append_left found ((y.0 + 1, y.1) ∷ []) x h

        put : (z : ℕ × ℕ) → z.1 < base → x ≡ (z.0 + 1, z.1) → Contains (take i before) z ⊎ (y ≡ z) → Contains (found ++ (y.0 + 1, y.1) ∷ []) x
        put z low e (inl h) = kept ((has x).1 (inr (z, h, low, e)))
        put z low e (inr s) = subst (Contains (found ++ (y.0 + 1, y.1) ∷ [])) (ap (λ (r : ℕ × ℕ). (r.0 + 1, r.1)) s ∙ sym e) (Contains-push found (y.0 + 1, y.1))

        back : Contains old x ⊎ IsLaterLeaf (take (i + 1) before) base x → Contains (found ++ (y.0 + 1, y.1) ∷ []) x
        back (inl h) = kept ((has x).1 (inl h))
        back (inr h) = put h.0 h.2 h.3 (first h.0 h.1)

    -- and goes behind all others
    pub push_ordered : (found made : List (ℕ × ℕ)) → All (λ (x : ℕ × ℕ). x.0 ≡ 0) old → AllPairs PlaceBefore before → made ≡ found ++ (y.0 + 1, y.1) ∷ [] → HasLater (take i before) base old found → AllPairs PlaceBefore found → AllPairs PlaceBefore made
    push_ordered found made first_cycle pairs is has ordered =
        subst (AllPairs PlaceBefore) (sym is) (pairs_push PlaceBefore found (y.0 + 1, y.1) ordered (λ x h. goes x ((has x).0 h)))
      where
        step : (z : ℕ × ℕ) → PlaceBefore z y → PlaceBefore (z.0 + 1, z.1) (y.0 + 1, y.1)
        step z (inl h) = inl (omega (arith, h))
        step z (inr h) = inr (ap (λ m. m + 1) h.0, h.1)

        goes : (x : ℕ × ℕ) → Contains old x ⊎ IsLaterLeaf (take i before) base x → PlaceBefore x (y.0 + 1, y.1)
        goes x (inl h) = inl (let e = All-contains (λ (x : ℕ × ℕ). x.0 ≡ 0) old x first_cycle h in omega (arith, e))
        goes x (inr (z, h, low, e)) =
            let at = at_of (take i before) z h in
            let there = slice_get-take i before at.0 z at.1 in
            subst (λ (w : ℕ × ℕ). PlaceBefore w (y.0 + 1, y.1)) (sym e) (step z (pairs_at PlaceBefore before at.0 i z y pairs there.0 there.1 (slice_get-get_or before i d inside)))

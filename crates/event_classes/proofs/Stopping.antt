-- Where the class map stops at the next latch.
use Rattle.std.proofs.Common.{◌≡◌, ◌+◌, ◌<◌, ◌≤◌, ℕ, suc, List, [], ◌∷◌, ◌++◌, length, drop, map, get_or, slice_get, Option, Some, refl, sym, ap, subst, arith, inl, inr, length-append, length-drop}
use Rattle.std.specs.Prelude.{◌≢◌, ◌⊎◌}
use Rattle.std.specs.List.{AllPairs}
use Rattle.std.proofs.lemmas.List.{length-take-le}
use Rattle.std.proofs.lemmas.Option.{slice_get-get_or}
use Rattle.circuit_theory.specs.declared.Side.{Side}
use Rattle.circuit_theory.specs.Circuit.{Latch}
use Rattle.circuit_theory.specs.Cone.{latch_place, latches_of}
use Rattle.circuit_theory.specs.Depth.{LatchesHaveDepths, IsDepth}
use Rattle.circuit_theory.specs.Joined.{Either}
use Rattle.circuit_theory.specs.Run.{IsEnabled}
use Rattle.circuit_theory.proofs.Lists.{length-map, at_of, of_at}
use Rattle.circuit_laws.proofs.Pairs.{filter_map-has}
use Rattle.circuit_theory.specs.Classes.{IsLatchOrder}
use Rattle.circuit_theory.specs.EventTotals.{IsClassesOver}
use Rattle.circuit_theory.specs.Frame.{EventSide}
use Rattle.flat_net.specs.Sound.{IsSound}
use Rattle.flat_net.specs.View.{NetView, circuit_of}
use Rattle.sec_base.specs.declared.basics.Tag.{Tag}
use Rattle.base_tables.specs.Table.{AreDistinct}
use Rattle.class_search.specs.pair_decide.Proof.{Proof}
use Rattle.event_nodes.specs.Nodes.{IsEventGraph}
use Rattle.event_nodes.specs.View.{EventCircuitView, Enabled}
use Rattle.class_search.specs.event_order.Order.{place_of, IsTagOf, IsTagOrder}
use Rattle.edbf_unfold.specs.class_queries.Enables.{both_of, class_map}
use Rattle.class_search.proofs.class_fits.class_joining.Bounds.{depths_of_both}
use Rattle.event_classes.specs.event_functions.class_totals.Totals.{AreWithin}
use Rattle.event_classes.proofs.event_functions.class_totals.Over.{totals_are_within}
use Rattle.event_classes.specs.declared.map.ClassMap.{ClassMap}
use Rattle.event_classes.specs.Limits.{IsLimitQuery}
use Rattle.event_classes.specs.Map.{IsWithin, IsMade, IsMadeTo, Counts, FitsIn, places_in, taken_of, with_next}
use Rattle.event_classes.specs.Refused.{IsNextLatch, IsTooMany, IsTooHeavy, IsLimitOf}
use Rattle.event_classes.specs.Steps.{HaveDepths, IsWeightOver, IsClassOver, IsOverAt, IsLimitAt, IsLimitWithin}
use Rattle.event_classes.proofs.WholeMap.{rest_made}

-- what was counted is within its numbers
pub within_of : (m : ClassMap) (us : List (Either ℕ ℕ)) → IsSound m.left.net → IsSound m.right.net → IsEventGraph m.events → AreDistinct m.left_count.places → AreDistinct m.right_count.places → IsWithin m → Counts m us → AreWithin m.left m.right us
within_of m us sound_a sound_b is once_left once_right within counts = totals_are_within m.left m.right m.events us m.left_count m.right_count sound_a sound_b is once_left once_right within.nodes counts

-- a latch that is in no class so far would found one too many
pub class_over : (m : ClassMap) (tag : Tag) → 500 ≤ length m.classes.items → FitsIn m tag (suc (length m.classes.items)) → IsClassOver m tag
class_over m tag many fits rest made =
    let number = made.stand.number in
    (omega (arith, many, number), λ k below. (fits rest made).not_earlier k (omega (arith, below, number)))

-- the same of the map before its event graph grew
module _ (m n : ClassMap) (tag : Tag) (same : n ≡ record m { events = n.events; left_count = n.left_count; right_count = n.right_count }) where
  pub within_before : AreWithin n.left n.right (with_next n tag) → AreWithin m.left m.right (with_next m tag)
  within_before within = subst (λ (o : ClassMap). AreWithin o.left o.right (with_next o tag)) same within

  module _ (made : (rest : List (Either ℕ ℕ)) → IsMade m rest → IsMade n rest) where
    made_before : (rest : List (Either ℕ ℕ)) → IsMade m (places_in m tag ∷ rest) → IsMade n (places_in n tag ∷ rest)
    made_before rest h = subst (λ (o : ClassMap). IsMade n (places_in o tag ∷ rest)) (sym same) (made (places_in m tag ∷ rest) h)

    pub class_before : IsClassOver n tag → IsClassOver m tag
    class_before over rest h = subst (λ (o : ClassMap). IsClassesOver (both_of o.left o.right) (taken_of o) (places_in o tag) 500) same (over rest (made_before rest h))

    pub limit_before : (conflicts : ℕ) (latch : Tag) (other : Option Tag) (proof : Proof) → IsLimitAt n tag latch other conflicts proof → IsLimitAt m tag latch other conflicts proof
    limit_before conflicts latch other proof l = (
      l.0,
      λ rest h. subst (λ (o : ClassMap). ((t : Tag) → other ≡ Some t → IsTagOf o.left.net o.right.net t) × IsLimitQuery (both_of o.left o.right) (places_in o) (taken_of o) (places_in o tag) other conflicts proof) same (l.1 rest (made_before rest h)),
    )

-- the next latch of all of them
module _ (m n : ClassMap) (tags : List Tag) (at : ℕ) (tag : Tag) (inside : at < length tags) (is : slice_get tags at ≡ Some tag) (made : IsMadeTo m n tags at) where
  left_net : n.left.net ≡ m.left.net
  left_net = ap (λ (e : EventCircuitView). e.net) made.left

  right_net : n.right.net ≡ m.right.net
  right_net = ap (λ (e : EventCircuitView). e.net) made.right

  abbrev rest : List (Either ℕ ℕ)
  rest = map (places_in n) (drop (at + 1) tags)

  here : IsMade n (places_in n tag ∷ rest)
  here = rest_made m n tags at tag inside is made

  module _ (few : length tags ≤ 30000) (sound_a : IsSound n.left.net) (sound_b : IsSound n.right.net) (events : IsEventGraph n.events) (once_left : AreDistinct n.left_count.places) (once_right : AreDistinct n.right_count.places) where
    all_latches : length (taken_of n ++ places_in n tag ∷ rest) ≤ 30000
    all_latches =
        let whole = length-append (taken_of n) (places_in n tag ∷ rest) in
        let front = length-map (places_in n) n.taken.items in
        let taken = ap length made.taken in
        let first = length-take-le at tags (omega (arith, inside)) in
        let back = length-map (places_in n) (drop (at + 1) tags) in
        let last = length-drop (at + 1) tags in
        omega (arith, whole, front, taken, first, back, last, few, inside)

    stop : IsNextLatch m.left m.right (places_in n tag)
    stop = record {
      left = n.left;
      right = n.right;
      left_is = made.left;
      right_is = made.right;
      taken = taken_of n;
      rest = rest;
      so_far = here.stand.so_far;
      latches = all_latches;
      within = within_of n (taken_of n) sound_a sound_b events once_left once_right here.within made.counts;
      classes = let number = here.stand.number in let low = here.within.classes in omega (arith, number, low);
    }

    pub many_of : IsOverAt n tag → IsTooMany m.left m.right
    unfolding stop
    many_of over = inr (places_in n tag, stop, over rest here made.counts)

    pub heavy_of : HaveDepths m.left m.right → (side : Side) → IsWeightOver n tag side → IsTooHeavy m.left m.right side
    unfolding stop
    heavy_of depths side over =
        let k = over (depth left_net depths.0, depth right_net depths.1) made.counts in
        (places_in n tag, stop, k.0, k.1)
      where
        depth : {x y : NetView} → x ≡ y → LatchesHaveDepths (circuit_of y) (IsEnabled (circuit_of y)) → LatchesHaveDepths (circuit_of x) (IsEnabled (circuit_of x))
        depth same h = subst (λ (z : NetView). LatchesHaveDepths (circuit_of z) (IsEnabled (circuit_of z))) (sym same) h

    abbrev Limited : ℕ → Option Tag → Proof → (Tag → Either ℕ ℕ) → Tag → Type 0
    Limited conflicts other proof place t = (x : IsNextLatch m.left m.right (place t)) × AreWithin x.left x.right (x.taken ++ place t ∷ []) × IsLimitQuery (both_of x.left x.right) place x.taken (place t) other conflicts proof

    pub limit_of : (conflicts : ℕ) (latch : Tag) (other : Option Tag) (proof : Proof) → IsTagOf n.left.net n.right.net tag → IsLimitWithin n tag latch other conflicts proof → IsLimitOf m.left m.right latch other conflicts proof
    unfolding stop
    limit_of conflicts latch other proof names l =
        let k = l.1.1 rest here in
        let moved = subst (Limited conflicts other proof (place_of m.left.net m.right.net)) (sym l.1.0) (subst (λ (place : Tag → Either ℕ ℕ). Limited conflicts other proof place tag) (λ i. place_of (left_net i) (right_net i)) (stop, l.0 made.counts, k.1)) in
        record { names = subst (IsTagOf m.left.net m.right.net) (sym l.1.0) (back tag names); other_names = λ t e. back t (k.0 t e); next = moved.0; within = moved.1; query = moved.2 }
      where
        back : (t : Tag) → IsTagOf n.left.net n.right.net t → IsTagOf m.left.net m.right.net t
        back t h = subst (λ (x : NetView). IsTagOf x m.right.net t) left_net (subst (λ (x : NetView). IsTagOf n.left.net x t) right_net h)

-- the same of the circuits that were given
module _ (a b c d : EventCircuitView) (left : c ≡ a) (right : d ≡ b) where
  pub many_both : IsTooMany c d → IsTooMany a b
  many_both k = subst (λ (e : EventCircuitView). IsTooMany e b) left (subst (IsTooMany c) right k)

  pub heavy_both : (side : Side) → IsTooHeavy c d side → IsTooHeavy a b side
  heavy_both side k = subst (λ (e : EventCircuitView). IsTooHeavy e b side) left (subst (λ (e : EventCircuitView). IsTooHeavy c e side) right k)

  pub limit_both : (conflicts : ℕ) (latch : Tag) (other : Option Tag) (proof : Proof) → IsLimitOf c d latch other conflicts proof → IsLimitOf a b latch other conflicts proof
  limit_both conflicts latch other proof k = subst (λ (e : EventCircuitView). IsLimitOf e b latch other conflicts proof) left (subst (λ (e : EventCircuitView). IsLimitOf c e latch other conflicts proof) right k)

abbrev Before : {P : Type 0} → EventSide P → P → P → Type 0
Before s u v = (m e i j : ℕ) → IsDepth s.circuit (IsEnabled s.circuit) u m → IsDepth s.circuit (IsEnabled s.circuit) v e → slice_get (latches_of s.circuit) i ≡ Some u → slice_get (latches_of s.circuit) j ≡ Some v → (m < e) ⊎ ((m ≡ e) × (i < j))

-- in their order no latch stands twice
order_distinct : {P : Type 0} (s : EventSide P) (order : List P) → IsLatchOrder s order → LatchesHaveDepths s.circuit (IsEnabled s.circuit) → AllPairs (λ u v. u ≢ v) order
order_distinct {P} s order is depths i j d below inside same =
    let u = get_or order i d in
    let en = is.enabled u (of_at order i u (slice_get-get_or order i d (omega (arith, below, inside)))) in
    let depth = depths en.name u en.next en.latch in
    let place = at_of (latches_of s.circuit) u (filter_map-has latch_place s.circuit.equations (Latch en.name u en.next) u en.latch refl) in
    let before : Before s u u = subst (Before s u) (sym same) (is.in_order i j d below inside) in
    no (before depth.0 depth.0 place.0 place.0 depth.1 depth.1 place.1 place.1)
  where
    no : {m i : ℕ} → (m < m) ⊎ ((m ≡ m) × (i < i)) → ⊥
    no (inl l) = omega (arith, l)
    no (inr k) = let l = k.1 in omega (arith, l)

-- more latches are enabled than may be
pub many_latches : (a b : EventCircuitView) (tags : List Tag) → IsSound a.net → IsSound b.net → LatchesHaveDepths (circuit_of a.net) (Enabled a) → LatchesHaveDepths (circuit_of b.net) (Enabled b) → IsTagOrder a.net b.net tags → 30000 < length tags → IsTooMany a b
many_latches a b tags sound_a sound_b left right order many =
    let is = order a.order b.order (class_map a b) in
    inl (record {
      latches = map (place_of a.net b.net) tags;
      distinct = order_distinct (both_of a b) (map (place_of a.net b.net) tags) is (depths_of_both a b sound_a sound_b left right);
      enabled = is.enabled;
      many = let long = length-map (place_of a.net b.net) tags in omega (arith, many, long);
    })

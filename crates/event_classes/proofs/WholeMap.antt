-- Class maps from the first latch to the last one.
use Rattle.std.proofs.Common.{◌≡◌, ◌∙◌, ◌+◌, ◌<◌, ◌≤◌, ℕ, zero, suc, List, [], ◌∷◌, ◌++◌, length, take, drop, get_or, map, slice_get, Some, refl, sym, ap, subst, arith}
use Rattle.std.specs.List.{All, Contains}
use Rattle.std.proofs.lemmas.List.{take_more, drop_more}
use Rattle.std.proofs.lemmas.List.Elements.{All-nil, All-get_or}
use Rattle.std.proofs.lemmas.Option.{get_or_from_slice_get}
use Rattle.circuit_theory.specs.Depth.{LatchesHaveDepths}
use Rattle.circuit_theory.specs.Joined.{Either}
use Rattle.circuit_theory.specs.Run.{IsEnabled}
use Rattle.circuit_theory.proofs.Lists.{at_of}
use Rattle.circuit_theory.specs.EventTotals.{IsMapSoFar}
use Rattle.flat_net.specs.Sound.{IsSound}
use Rattle.flat_net.specs.View.{NetView, circuit_of}
use Rattle.sec_base.specs.declared.basics.Tag.{Tag}
use Rattle.event_nodes.specs.Nodes.{EventGraphView, IsEventGraph}
use Rattle.base_tables.specs.Table.{AreDistinct}
use Rattle.event_classes.specs.event_functions.class_totals.Totals.{HaveCounted}
use Rattle.event_classes.specs.event_functions.class_totals.Laws.{nothing}
use Rattle.event_classes.proofs.event_functions.class_totals.Going.{totals_begin}
use Rattle.event_classes.proofs.event_functions.class_totals.Over.{totals_are_within}
use Rattle.event_nodes.specs.View.{EventCircuitView, IsEventCircuit, Enabled}
use Rattle.event_nodes.specs.Visited.{CounterView, IsWeighed}
use Rattle.class_search.specs.event_order.Order.{place_of, IsTagOf, IsTagOrder}
use Rattle.class_search.specs.Comparing.{IsReadyEnable}
use Rattle.edbf_unfold.specs.class_queries.Enables.{both_of}
use Rattle.class_search.proofs.class_fits.class_joining.Bounds.{depths_of_both, map_begins, map_ends}
use Rattle.class_search.specs.declared.class.Class.{Class}
use Rattle.event_classes.specs.declared.map.ClassMap.{ClassMap}
use Rattle.class_search.specs.declared.class_separations.apart.Apart.{Apart}
use Rattle.class_search.specs.class_separations.Apart.{AreToldApart}
use Rattle.event_classes.specs.Named.{AreNamed}
use Rattle.class_search.specs.class_fits.Stand.{IsStand}
use Rattle.event_classes.proofs.Naming.{named_none}
use Rattle.event_classes.specs.Map.{IsMade, GoesOn, IsBegun, IsMadeTo, IsClassMapOf, places_in, taken_of, HaveEnableLits}

none_at : {X : Type 0} (i : ℕ) (y : X) → slice_get [] i ≡ Some y → ⊥
none_at zero y q = cc
none_at (suc i) y q = cc

same_at : (tags : List Tag) (at : ℕ) (tag : Tag) → slice_get tags at ≡ Some tag → tag ≡ get_or tags at tag
same_at tags at tag here = sym (get_or_from_slice_get tags at tag tag here)

-- what is left where the next latch is this one
pub rest_made : (m n : ClassMap) (tags : List Tag) (at : ℕ) (tag : Tag) → at < length tags → slice_get tags at ≡ Some tag → IsMadeTo m n tags at → IsMade n (places_in n tag ∷ map (places_in n) (drop (at + 1) tags))
rest_made m n tags at tag inside is made = subst (λ (ts : List Tag). IsMade n (map (places_in n) ts)) (drop_more tags at tag inside ∙ ap (λ (t : Tag). t ∷ drop (at + 1) tags) (sym (same_at tags at tag is))) made.made

pub next_made : (m n : ClassMap) (tags : List Tag) (at : ℕ) (tag : Tag) → at < length tags → slice_get tags at ≡ Some tag → IsMadeTo m n tags at → (rest : List (Either ℕ ℕ)) × IsMade n (places_in n tag ∷ rest)
next_made m n tags at tag inside is made = (map (places_in n) (drop (at + 1) tags), rest_made m n tags at tag inside is made)

-- one latch more
pub made_next : (m n o : ClassMap) (tags : List Tag) (at : ℕ) (tag : Tag) → at < length tags → slice_get tags at ≡ Some tag → IsMadeTo m n tags at → GoesOn n o tag (taken_of n) → IsMadeTo m o tags (at + 1)
made_next m n o tags at tag inside is made on = record {
  left = on.left ∙ ap (λ (e : EventCircuitView). record e { classes = o.left.classes }) made.left;
  right = on.right ∙ ap (λ (e : EventCircuitView). record e { classes = o.right.classes }) made.right;
  taken = on.taken ∙ (ap (λ (ts : List Tag). ts ++ tag ∷ []) made.taken ∙ (ap (λ (t : Tag). take at tags ++ t ∷ []) (same_at tags at tag is) ∙ sym (take_more tags at tag inside)));
  made = subst (λ (place : Tag → Either ℕ ℕ). IsMade o (map place (drop (at + 1) tags))) (λ i. place_of (sym left_net i) (sym right_net i))
      (on.made (map (places_in n) (drop (at + 1) tags)) (rest_made m n tags at tag inside is made));
  counts = on.counts (map (places_in n) (drop (at + 1) tags)) (rest_made m n tags at tag inside is made) made.counts;
}
  where
    left_net : o.left.net ≡ n.left.net
    left_net = ap (λ (e : EventCircuitView). e.net) on.left

    right_net : o.right.net ≡ n.right.net
    right_net = ap (λ (e : EventCircuitView). e.net) on.right

-- the next latch is a latch
pub tag_next : (m n : ClassMap) (tags : List Tag) (at : ℕ) (tag : Tag) → at < length tags → slice_get tags at ≡ Some tag → IsMadeTo m n tags at → All (IsTagOf m.left.net m.right.net) tags → IsTagOf n.left.net n.right.net tag
tag_next m n tags at tag inside is made named =
    subst (λ (x : NetView). IsTagOf x n.right.net tag) (sym (ap (λ (e : EventCircuitView). e.net) made.left))
    (subst (λ (x : NetView). IsTagOf m.left.net x tag) (sym (ap (λ (e : EventCircuitView). e.net) made.right)) (subst (IsTagOf m.left.net m.right.net) (sym (same_at tags at tag is)) (All-get_or (IsTagOf m.left.net m.right.net) tags at tag inside named)))

-- the first one
pub made_first : (a b : EventCircuitView) (m : ClassMap) (tags : List Tag) → IsSound a.net → IsSound b.net → LatchesHaveDepths (circuit_of a.net) (Enabled a) → LatchesHaveDepths (circuit_of b.net) (Enabled b) → IsTagOrder a.net b.net tags → All (λ k. k ≡ 0) a.classes →
    All (λ k. k ≡ 0) b.classes → IsBegun a b m → IsMadeTo m m tags 0
made_first a b m tags sound_a sound_b left right order left_none right_none begun = record {
  left = refl;
  right = refl;
  taken = begun.taken;
  made = record {
    stand = subst (λ (us : List (Either ℕ ℕ)). IsStand m.left m.right m.events (places_in m) us (map (places_in m) tags) m.table m.classes.items) (sym no_latch_taken)
        (subst (λ (es : List ((ℕ × ℕ) × ℕ)). IsStand m.left m.right m.events (places_in m) [] (map (places_in m) tags) es m.classes.items) (sym begun.table)
        (subst (λ (cs : List Class). IsStand m.left m.right m.events (places_in m) [] (map (places_in m) tags) [] cs) (sym begun.classes) (record {
          so_far = subst (λ (e : EventCircuitView). IsMapSoFar (both_of e m.right) [] (map (place_of e.net m.right.net) tags)) (sym begun.left)
              (subst (λ (e : EventCircuitView). IsMapSoFar (both_of a e) [] (map (place_of a.net e.net) tags)) (sym begun.right) (map_begins a b tags sound_a sound_b both order left_none right_none));
          number = refl;
          known = λ p k h. absurd (no_entry (p, k) h);
          members = λ k c at. absurd (none_at k c at);
          ready = All-nil (λ (c : Class). All (IsReadyEnable m.events) c.enables.items);
        })));
    depths = subst (λ (e : EventCircuitView). LatchesHaveDepths (both_of e m.right).circuit (IsEnabled (both_of e m.right).circuit)) (sym begun.left)
        (subst (λ (e : EventCircuitView). LatchesHaveDepths (both_of a e).circuit (IsEnabled (both_of a e).circuit)) (sym begun.right) both);
    within = record {
      left = subst (IsWeighed m.left.net) (sym begun.left_count) (weighed_none m.left.net);
      right = subst (IsWeighed m.right.net) (sym begun.right_count) (weighed_none m.right.net);
      nodes = subst (λ (w : EventGraphView). length w.children < 10000) (sym begun.events) (omega arith);
      classes = subst (λ (cs : List Class). length cs ≤ 500) (sym begun.classes) (omega arith);
    };
    told = subst (λ (cs : List Class). AreToldApart m.left m.right m.events (places_in m) (taken_of m) cs m.aparts.items) (sym begun.classes)
        (subst (λ (xs : List Apart). AreToldApart m.left m.right m.events (places_in m) (taken_of m) [] xs) (sym begun.aparts)
        (record { own = λ k i c t x at at_t at_x. absurd (none_at k c at); apart = record { long = refl; each = λ low high below within. absurd (omega (arith, below, within)) } }));
    named = subst (λ (cs : List Class). AreNamed m.left.net m.right.net cs m.aparts.items) (sym begun.classes) (subst (AreNamed m.left.net m.right.net []) (sym begun.aparts) (named_none m.left.net m.right.net));
    lits = subst (HaveEnableLits (both_of m.left m.right) m.events (places_in m)) (sym begun.classes) (λ k i c t x at at_t at_x. absurd (none_at k c at));
  };
  counts = subst (λ (w : EventGraphView). HaveCounted m.left m.right w.children (taken_of m) m.left_count m.right_count) (sym begun.events)
      (subst (λ (us : List (Either ℕ ℕ)). HaveCounted m.left m.right [] us m.left_count m.right_count) (sym no_latch_taken)
      (subst (λ (c : CounterView). HaveCounted m.left m.right [] [] c m.right_count) (sym begun.left_count)
      (subst (λ (c : CounterView). HaveCounted m.left m.right [] [] nothing c) (sym begun.right_count) (totals_begin m.left m.right))));
}
  where
    both : LatchesHaveDepths (both_of a b).circuit (IsEnabled (both_of a b).circuit)
    both = depths_of_both a b sound_a sound_b left right

    no_latch_taken : taken_of m ≡ []
    no_latch_taken = ap (map (places_in m)) begun.taken

    no_entry : (e : (ℕ × ℕ) × ℕ) → Contains [] e → ⊥
    no_entry e h = let k = at_of [] e h in none_at k.0 e k.1

    weighed_none : (n : NetView) → IsWeighed n (record { places = []; weight = 0 })
    weighed_none n = record { sum = refl; small = omega arith; few = omega arith }

-- the last one
pub made_last : (a b : EventCircuitView) (m n : ClassMap) (tags : List Tag) → IsBegun a b m → IsSound n.left.net → IsSound n.right.net → IsEventCircuit n.left → IsEventCircuit n.right → IsEventGraph n.events → AreDistinct n.left_count.places → AreDistinct n.right_count.places → length tags ≤ 30000 → IsMadeTo m n tags (length tags) → IsClassMapOf a b n
made_last a b m n tags begun sound_a sound_b kept_a kept_b is once_left once_right few made =
    let whole = subst (λ (ts : List Tag). IsMade n (map (places_in n) ts)) (drop_all tags) made.made in
    let has = map_ends n.left n.right sound_a sound_b kept_a kept_b whole.depths (taken_of n) whole.stand.so_far in
    record {
      left = made.left ∙ ap (λ (e : EventCircuitView). record e { classes = n.left.classes }) begun.left;
      right = made.right ∙ ap (λ (e : EventCircuitView). record e { classes = n.right.classes }) begun.right;
      classes = has.0;
      order = has.1;
      made = whole;
      counts = made.counts;
      within = totals_are_within n.left n.right n.events (taken_of n) n.left_count n.right_count sound_a sound_b is once_left once_right whole.within.nodes made.counts;
      few = let e = ap length made.taken in let k = take_all tags in omega (arith, e, k, few);
    }
  where
    drop_all : (ts : List Tag) → drop (length ts) ts ≡ []
    drop_all [] = refl
    drop_all (t ∷ ts) = drop_all ts

    take_all : (ts : List Tag) → length (take (length ts) ts) ≡ length ts
    take_all [] = refl
    take_all (t ∷ ts) = ap suc (take_all ts)

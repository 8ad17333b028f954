-- What was counted while the class map was made is what the enables' starts visit.
use Rattle.std.proofs.Common.{◌≡◌, ◌≤◌, ℕ, List, [], ◌∷◌, length, map, sym, subst, inl, inr}
use Rattle.std.specs.Prelude.{◌⊎◌}
use Rattle.std.specs.List.{Contains}
use Rattle.std.proofs.lemmas.List.Elements.{Contains-append_left, Contains-append_right}
use Rattle.circuit_theory.specs.Joined.{Either, Left, Right}
use Rattle.circuit_theory.proofs.Lists.{Contains-map, length-map, only}
use Rattle.circuit_theory.specs.EventSizes.{Start}
use Rattle.circuit_theory.specs.EventTotals.{AreStarts}
use Rattle.flat_net.specs.Sound.{IsSound}
use Rattle.flat_net.specs.View.{circuit_of}
use Rattle.flat_net.proofs.Nets.{sound_is_net}
use Rattle.event_nodes.specs.Nodes.{path_of}
use Rattle.event_nodes.specs.View.{EventCircuitView, side_of}
use Rattle.event_form.specs.event_agreement.pair_events.Enables.{both_of, class_map}
use Rattle.circuit_laws.proofs.reset_laws.class_extension.Sides.{sides_reach_nodes_in_nets}
use Rattle.event_classes.specs.event_functions.class_totals.Totals.{AreWithin}
use Rattle.event_classes.specs.event_functions.class_totals.Totals as totals
use Rattle.event_classes.proofs.event_functions.class_totals.Nodes.{node_more}
use Rattle.event_classes.specs.declared.map.ClassMap.{ClassMap}
use Rattle.event_classes.specs.Map.{IsClassMapOf, places_in, taken_of}
use Rattle.event_form.specs.event_agreement.pair_events.Counted.{HaveCounted, both_starts, moved_start}
use Rattle.event_form.specs.event_findings.unshown_pairs.class_events.Made.{events_in, AreEnablesCounted}

starts_counted : (m : ClassMap) → IsSound m.left.net → IsSound m.right.net → (h : totals.HaveCounted m.left m.right m.events.children (taken_of m) m.left_count m.right_count) → HaveCounted (events_in m) h.lefts h.rights
starts_counted m sound_a sound_b h = record {
  left_counted = h.left_counted;
  right_counted = h.right_counted;
  left_nodes = λ x has path node. h.nodes.all path ((sides_reach_nodes_in_nets (circuit_of m.left.net) (circuit_of m.right.net) (length m.left.net.drivers) (length m.right.net.drivers) m.left.order m.right.order (class_map m.left m.right) (sound_is_net m.left.net sound_a)
      (sound_is_net m.right.net sound_b) h.starts h.lefts h.rights h.both path).1 (inl (node_more (side_of m.left) (x ∷ []) h.lefts (λ y k. subst (Contains h.lefts) (only x y k) has) path node)));
  right_nodes = λ x has path node. h.nodes.all path ((sides_reach_nodes_in_nets (circuit_of m.left.net) (circuit_of m.right.net) (length m.left.net.drivers) (length m.right.net.drivers) m.left.order m.right.order (class_map m.left m.right) (sound_is_net m.left.net sound_a)
      (sound_is_net m.right.net sound_b) h.starts h.lefts h.rights h.both path).1 (inr (node_more (side_of m.right) (x ∷ []) h.rights (λ y k. subst (Contains h.rights) (only x y k) has) path node)));
  only = λ k n class at. node_more (both_of m.left m.right) h.starts (both_starts h.lefts h.rights) (λ y c. among y (h.both.all y c)) (class ∷ path_of m.events.children n) (h.nodes.only k n class at);
}
  where
    among : (y : Start (Either ℕ ℕ)) → ((x : Start ℕ) × Contains h.lefts x × (y ≡ moved_start Left x)) ⊎ ((x : Start ℕ) × Contains h.rights x × (y ≡ moved_start Right x)) → Contains (both_starts h.lefts h.rights) y
    among y (inl (x, c, e)) = subst (Contains (both_starts h.lefts h.rights)) (sym e) (Contains-append_left (map (moved_start Left) h.lefts) (map (moved_start Right) h.rights) (moved_start Left x) (Contains-map (moved_start Left) h.lefts x c))
    among y (inr (x, c, e)) = subst (Contains (both_starts h.lefts h.rights)) (sym e) (Contains-append_right (map (moved_start Left) h.lefts) (map (moved_start Right) h.rights) (moved_start Right x) (Contains-map (moved_start Right) h.rights x c))

pub enables_counted : (a b : EventCircuitView) (m : ClassMap) → IsSound m.left.net → IsSound m.right.net → IsClassMapOf a b m → AreEnablesCounted (events_in m)
enables_counted a b m sound_a sound_b is = record {
  classes = is.classes;
  few = subst (λ (us : List (Either ℕ ℕ)). length us ≤ 30000) (sym is.order) (subst (λ n. n ≤ 30000) (sym (length-map (places_in m) m.taken.items)) is.few);
  within = subst (AreWithin m.left m.right) (sym is.order) is.within;
  limits = record {
    starts = record { left = is.counts.lefts; right = is.counts.rights; counted = starts_counted m sound_a sound_b is.counts };
    left = is.made.within.left;
    right = is.made.within.right;
    nodes = is.made.within.nodes;
  };
  starts = is.counts.starts;
  are = subst (λ (us : List (Either ℕ ℕ)). AreStarts (both_of m.left m.right) us [] is.counts.starts) (sym is.order) is.counts.are;
  lefts = is.counts.lefts;
  rights = is.counts.rights;
  both = is.counts.both;
  counted = starts_counted m sound_a sound_b is.counts;
}

-- Where a class map begins, and where it ends.
use Rattle.std.proofs.Common.{◌≡◌, ◌∙◌, ◌+◌, ◌==◌, ℕ, Bool, true, false, cond, List, [], ◌∷◌, ◌++◌, length, map, slice_get, Some, refl, sym, ap, subst, arith}
use Rattle.std.specs.Prelude.{All, ◌↔◌}
use Rattle.std.proofs.lemmas.List.{length-append}
use Rattle.std.proofs.lemmas.List.Elements.{All-head, All-tail}
use Rattle.std.proofs.lemmas.Option.{slice_get_within}
use Rattle.circuit_theory.specs.Depth.{LatchesHaveDepths}
use Rattle.circuit_theory.specs.Joined.{Either, Left, Right, joined, moved_name}
use Rattle.circuit_theory.specs.Run.{IsEnabled}
use Rattle.circuit_theory.proofs.Lists.{length-map}
use Rattle.circuit_laws.proofs.event_laws.ClassSteps.{class_map_goes_on_in_nets}
use Rattle.circuit_laws.proofs.event_laws.SideParts.{sides_are_parts_in_nets}
use Rattle.flat_net.specs.declared.parts.LatchAt.{LatchAt}
use Rattle.flat_net.specs.View.{NetView, circuit_of}
use Rattle.flat_net.proofs.Nets.{some_at, sound_is_net}
use Rattle.event_nodes.specs.View.{EventCircuitView, IsEventCircuit, class_at}
use Rattle.class_search.specs.event_order.Order.{IsMarkedNet, place_of}
use Rattle.edbf_unfold.specs.class_queries.Enables.{class_map}
use Rattle.edbf_unfold.proofs.class_queries.Meaning.{numbered}
use Rattle.class_search.specs.class_fits.class_joining.Laws.{BothHaveDepths, ClassMapBegins, ClassMapEnds}

pub depths_of_both : BothHaveDepths
depths_of_both a b sound_a sound_b left right =
    (sides_are_parts_in_nets (circuit_of a.net) (circuit_of b.net) (length a.net.drivers) (length b.net.drivers) (sound_is_net a.net sound_a) (sound_is_net b.net sound_b)).4 left right

class_none : (ls : List LatchAt) (ks : List ℕ) (p : ℕ) → All (λ k. k ≡ 0) ks → class_at ls ks p ≡ 0
class_none [] ks p all = refl
class_none (l ∷ ls) [] p all = refl
class_none (l ∷ ls) (k ∷ ks) p all = go (l.out.0 == p) refl (class_none ls ks p (All-tail (λ j. j ≡ 0) k ks all))
  where
    go : (b : Bool) → (l.out.0 == p) ≡ b → class_at ls ks p ≡ 0 → cond (l.out.0 == p) k (class_at ls ks p) ≡ 0
    go true e rest = ap (λ (b : Bool). cond b k (class_at ls ks p)) e ∙ All-head (λ j. j ≡ 0) k ks all
    go false e rest = ap (λ (b : Bool). cond b k (class_at ls ks p)) e ∙ rest

pub map_begins : ClassMapBegins
map_begins a b tags sound_a sound_b depths order left right =
    (class_map_goes_on_in_nets (circuit_of a.net) (circuit_of b.net) (length a.net.drivers) (length b.net.drivers) a.order b.order (class_map a b) (sound_is_net a.net sound_a) (sound_is_net b.net sound_b) depths).0 (map (place_of a.net b.net) tags)
    (order a.order b.order (class_map a b)) (λ name u next latch off. none u)
  where
    none : (u : Either ℕ ℕ) → class_map a b u ≡ 0
    none (Left p) = class_none a.net.latches a.classes p left
    none (Right q) = class_none b.net.latches b.classes q right

pub map_ends : ClassMapEnds
map_ends a b sound_a sound_b kept_a kept_b depths taken so =
    (class_map_goes_on_in_nets (circuit_of a.net) (circuit_of b.net) (length a.net.drivers) (length b.net.drivers) a.order b.order (class_map a b) (sound_is_net a.net sound_a) (sound_is_net b.net sound_b) depths).2 taken so each
  where
    each : length (a.order ++ b.order) ≡ length (joined (circuit_of a.net) (circuit_of b.net)).inputs
    each =
        length-append a.order b.order
        ∙ ((λ i. numbered a kept_a i + numbered b kept_b i)
        ∙ sym (length-append (map (moved_name {P = ℕ} {Q = Either ℕ ℕ} Left) (circuit_of a.net).inputs) (map (moved_name {P = ℕ} {Q = Either ℕ ℕ} Right) (circuit_of b.net).inputs)
        ∙ (λ i. length-map (moved_name {P = ℕ} {Q = Either ℕ ℕ} Left) (circuit_of a.net).inputs i + length-map (moved_name {P = ℕ} {Q = Either ℕ ℕ} Right) (circuit_of b.net).inputs i)))

-- a circuit's bits mark its enabled latches
pub marked : (e : EventCircuitView) (n : NetView) (bits : List Bool) → n ≡ e.net → bits ≡ e.enabled → IsEventCircuit e → LatchesHaveDepths (circuit_of e.net) (IsEnabled (circuit_of e.net)) → IsMarkedNet n bits
marked e n bits same_net same_bits kept depths =
    subst (λ (m : NetView). IsMarkedNet m bits) (sym same_net) (subst (IsMarkedNet e.net) (sym same_bits) (record { each = kept.marks.each; marks = marks; depths = depths }))
  where
    marks : (j : ℕ) (l : LatchAt) → slice_get e.net.latches j ≡ Some l → (slice_get e.enabled j ≡ Some true) ↔ IsEnabled (circuit_of e.net) l.out.0
    marks j l at = (λ set. (kept.marks.exactly j l true at set).0 refl, λ on. back on)
      where
        back : IsEnabled (circuit_of e.net) l.out.0 → slice_get e.enabled j ≡ Some true
        back on =
            let bit = some_at e.enabled j (let w = slice_get_within e.net.latches j l at in omega (arith, w, kept.marks.each)) in
            bit.1 ∙ ap Some ((kept.marks.exactly j l bit.0 at bit.1).1 on)

-- Why the enable of the next latch isn't counted.
use Rattle.std.proofs.Common.{◌≡◌, ◌<◌, ◌≤◌, ℕ, List, [], ◌∷◌, ◌++◌, length, slice_get, Some, Result, Ok, Err}
use Rattle.circuit_theory.specs.declared.Side.TheVariants.{A, B}
use Rattle.circuit_theory.specs.Depth.{LatchesHaveDepths}
use Rattle.circuit_theory.specs.Joined.{Either, Left, Right}
use Rattle.circuit_theory.specs.EventSizes.{Start}
use Rattle.flat_net.specs.declared.parts.LatchAt.{LatchAt}
use Rattle.flat_net.specs.Cut.{latch_at}
use Rattle.flat_net.specs.Sound.{IsSound}
use Rattle.flat_net.specs.View.{circuit_of}
use Rattle.event_nodes.specs.declared.error.EventUnfoldError.{EventUnfoldError}
use Rattle.event_nodes.specs.declared.error.EventUnfoldError.TheVariants as unfold_error
use Rattle.event_nodes.specs.Nodes.{EventGraphView, IsEventGraph}
use Rattle.event_nodes.specs.View.{EventCircuitView, Enabled}
use Rattle.event_nodes.specs.Visited.{CounterView}
use Rattle.edbf_unfold.specs.event_literals.event_walk.Walk.{IsCounting, enable_start}
use Rattle.event_classes.specs.event_functions.Refused.{IsRefusal}
use Rattle.event_classes.specs.event_functions.class_totals.Totals.{HaveCounted, ReachTooMany, ReachFew, WeighTooMuch}
use Rattle.event_classes.proofs.event_functions.class_totals.Over.{many_nodes_are_over, heavy_is_over, few_nodes_are_within}
use Rattle.event_classes.proofs.Enabling.{parents_of}
use Rattle.event_classes.proofs.Setting.{latch_there}

-- the refusal of the enable is that of its unfolding, and what was made isn't refused
pub refused_alike : {X Y : Type 0} (e : EventCircuitView) (old new : List (ℕ × ℕ)) (x : Start ℕ) (counted : List (ℕ × ℕ)) (made : Result X EventUnfoldError) (result : Result Y EventUnfoldError) → ((error : EventUnfoldError) → result ≡ Err error → made ≡ Err error) → IsRefusal e old new x counted made → IsRefusal e old new x counted result
refused_alike e old new x counted made result same k = record {
  many = λ is. k.many (same unfold_error.TooManyEvents is);
  few = λ is. k.few (same unfold_error.TooLarge is);
  large = λ is. k.large (same unfold_error.TooLarge is);
}

pub ok_refused : {X : Type 0} (e : EventCircuitView) (old new : List (ℕ × ℕ)) (x : Start ℕ) (counted : List (ℕ × ℕ)) (y : X) → IsRefusal e old new x counted (Ok y)
ok_refused {X} e old new x counted y = record { many = λ is. absurd (no unfold_error.TooManyEvents is); few = λ is. absurd (no unfold_error.TooLarge is); large = λ is. absurd (no unfold_error.TooLarge is) }
  where
    no : (error : EventUnfoldError) → ◌≡◌ {A = Result X EventUnfoldError} (Ok y) (Err error) → ⊥
    no error q = cc

pub error_is : {X : Type 0} {e f : EventUnfoldError} → ◌≡◌ {A = Result X EventUnfoldError} (Err e) (Err f) → e ≡ f
error_is q = cc

module _ (a b : EventCircuitView) (w v : EventGraphView) (taken : List (Either ℕ ℕ)) (j : ℕ) (left right : CounterView) (sound_a : IsSound a.net) (sound_b : IsSound b.net) (is : IsEventGraph w) (is_new : IsEventGraph v) (h : HaveCounted a b w.children taken left right) where
  module _ (more : CounterView) (within : j < length a.net.latches) (counting : (l : LatchAt) → slice_get a.net.latches j ≡ Some l → IsCounting a (enable_start l) w.children v.children left more) where
    pub left_many : 10000 ≤ length v.children → ReachTooMany a b (taken ++ Left (latch_at a.net j).out.0 ∷ [])
    left_many many =
        let at = latch_there a.net j within in
        let c = counting (latch_at a.net j) at in
        (many_nodes_are_over a b w.children v taken j (latch_at a.net j) left right sound_a sound_b (parents_of w is) is_new c.more many h).0 at c.nodes

    pub left_large : {X : Type 0} (made : Result X EventUnfoldError) → ((l : LatchAt) → slice_get a.net.latches j ≡ Some l → IsRefusal a w.children v.children (enable_start l) left.places made) → made ≡ Err unfold_error.TooLarge → LatchesHaveDepths (circuit_of a.net) (Enabled a) →
        ReachFew a b (taken ++ Left (latch_at a.net j).out.0 ∷ []) × WeighTooMuch A a b (taken ++ Left (latch_at a.net j).out.0 ∷ [])
    left_large made refused same depths =
        let at = latch_there a.net j within in
        let c = counting (latch_at a.net j) at in
        let r = refused (latch_at a.net j) at in
        let f = r.few same in
        ((few_nodes_are_within a b w.children v.children taken j (latch_at a.net j) left right sound_a sound_b (parents_of w is) c.more f.few h).0 at c.nodes (f.all depths), (heavy_is_over a b w.children taken j (latch_at a.net j) left right sound_a sound_b h).0 at (r.large same))

  module _ (more : CounterView) (within : j < length b.net.latches) (counting : (l : LatchAt) → slice_get b.net.latches j ≡ Some l → IsCounting b (enable_start l) w.children v.children right more) where
    pub right_many : 10000 ≤ length v.children → ReachTooMany a b (taken ++ Right (latch_at b.net j).out.0 ∷ [])
    right_many many =
        let at = latch_there b.net j within in
        let c = counting (latch_at b.net j) at in
        (many_nodes_are_over a b w.children v taken j (latch_at b.net j) left right sound_a sound_b (parents_of w is) is_new c.more many h).1 at c.nodes

    pub right_large : {X : Type 0} (made : Result X EventUnfoldError) → ((l : LatchAt) → slice_get b.net.latches j ≡ Some l → IsRefusal b w.children v.children (enable_start l) right.places made) → made ≡ Err unfold_error.TooLarge → LatchesHaveDepths (circuit_of b.net) (Enabled b) →
        ReachFew a b (taken ++ Right (latch_at b.net j).out.0 ∷ []) × WeighTooMuch B a b (taken ++ Right (latch_at b.net j).out.0 ∷ [])
    right_large made refused same depths =
        let at = latch_there b.net j within in
        let c = counting (latch_at b.net j) at in
        let r = refused (latch_at b.net j) at in
        let f = r.few same in
        ((few_nodes_are_within a b w.children v.children taken j (latch_at b.net j) left right sound_a sound_b (parents_of w is) c.more f.few h).1 at c.nodes (f.all depths), (heavy_is_over a b w.children taken j (latch_at b.net j) left right sound_a sound_b h).1 at (r.large same))

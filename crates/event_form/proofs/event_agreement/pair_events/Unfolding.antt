-- What an unfolding of one circuit gives for both.
use Rattle.std.proofs.Common.{ℕ, [], ◌∷◌, ◌++◌, Result, Ok, Err}
use Rattle.std.specs.Prelude.{IfOk, OnOk}
use Rattle.circuit_theory.specs.declared.Side.TheVariants.{A, B}
use Rattle.circuit_theory.specs.Joined.{Left, Right}
use Rattle.event_nodes.specs.Nodes.{EventGraphView, IsEventGraph}
use Rattle.event_nodes.specs.Visited.{CounterView}
use Rattle.event_nodes.specs.declared.error.EventUnfoldError.{EventUnfoldError}
use Rattle.edbf_unfold.specs.event_literals.event_walk.Walk.{HasCountedStart, IsCounting}
use Rattle.event_classes.specs.declared.event_functions.signals.SignalFunction.{SignalFunction}
use Rattle.event_classes.specs.event_functions.Functions.{IsFunctionOf, signal_start}
use Rattle.event_classes.specs.event_functions.Refused.{IsRefusal}
use Rattle.edbf_unfold.specs.class_queries.Laws.{AreKept}
use Rattle.event_form.specs.event_agreement.event_pairs.Functions.{IsEventFunction}
use Rattle.event_form.proofs.event_agreement.event_pairs.Sides.{left_function, right_function}
use Rattle.event_form.specs.event_agreement.pair_events.Counted.{GoOnCounting, IsRefusedBy}
use Rattle.event_form.specs.event_agreement.pair_events.View.{EventsView, IsEvents, IsWithinLimits, side_of_both}
use Rattle.event_form.proofs.event_agreement.pair_events.Sides.{left_goes_on, left_many, left_large, right_goes_on, right_many, right_large}

-- what holds of a result holds of it with what holds where there is one
pub with_ok : {X E : Type 0} (r : Result X E) (P : X → Type 0) (C : Type 0) (Q : X → Type 0) → ((x : X) → P x → C → Q x) → IfOk r P → OnOk r C → IfOk r Q
with_ok (Ok x) P C Q f p c = f x p c
with_ok (Err e) P C Q f p c = tt

pub on_ok : {X E : Type 0} (r : Result X E) (C D : Type 0) → (C → D) → OnOk r C → OnOk r D
on_ok (Ok x) C D f c = f c
on_ok (Err e) C D f c = tt

module _ (e : EventsView) (w : EventGraphView) (d : CounterView) (p : ℕ) (result : Result SignalFunction EventUnfoldError) (events : IsEvents e) (kept : AreKept e.left e.right e.events) (is : IsEventGraph w) where
  -- of the first circuit
  module _ (function : IfOk result (IsFunctionOf e.left w p)) (counted : OnOk result (HasCountedStart e.left (signal_start p) w.children e.left_count d)) (counting : IsCounting e.left (signal_start p) e.events.children w.children e.left_count d)
      (refused : IsRefusal e.left e.events.children w.children (signal_start p) e.left_count.places result) where
    abbrev left_new : EventsView
    left_new = record e { events = w; left_count = d }

    left_kept : AreKept e.left e.right w
    left_kept = record { left_sound = kept.left_sound; right_sound = kept.right_sound; left = kept.left; right = kept.right; events = is }

    pub left_is_function : IfOk result (IsEventFunction (side_of_both left_new) w (Left p))
    left_is_function =
        with_ok result (IsFunctionOf e.left w p) (HasCountedStart e.left (signal_start p) w.children e.left_count d) (IsEventFunction (side_of_both left_new) w (Left p)) (λ r f k. left_function e.left e.right w left_kept p r f k.nodes) function counted

    pub left_is_counted : OnOk result (GoOnCounting A p e left_new)
    left_is_counted = on_ok result (HasCountedStart e.left (signal_start p) w.children e.left_count d) (GoOnCounting A p e left_new) (λ k. left_goes_on e kept w d p counting k) counted

    pub left_is_within : IsWithinLimits e → OnOk result (IsWithinLimits left_new)
    left_is_within before = on_ok result (HasCountedStart e.left (signal_start p) w.children e.left_count d) (IsWithinLimits left_new) (λ k. record {
      starts = record { left = before.starts.left ++ signal_start p ∷ []; right = before.starts.right; counted = left_goes_on e kept w d p counting k before.starts.left before.starts.right before.starts.counted };
      left = k.on.weighed;
      right = before.right;
      nodes = k.on.few;
    }) counted

    pub left_is_refused : IsRefusedBy A p e result
    left_is_refused = record {
      many = λ same. left_many e kept w d p counting is (refused.many same);
      large = λ same. left_large e kept w d p counting (refused.few same) events.left_depths (λ starts h before. refused.large same starts h before);
    }

  -- of the second
  module _ (function : IfOk result (IsFunctionOf e.right w p)) (counted : OnOk result (HasCountedStart e.right (signal_start p) w.children e.right_count d)) (counting : IsCounting e.right (signal_start p) e.events.children w.children e.right_count d)
      (refused : IsRefusal e.right e.events.children w.children (signal_start p) e.right_count.places result) where
    abbrev right_new : EventsView
    right_new = record e { events = w; right_count = d }

    right_kept : AreKept e.left e.right w
    right_kept = record { left_sound = kept.left_sound; right_sound = kept.right_sound; left = kept.left; right = kept.right; events = is }

    pub right_is_function : IfOk result (IsEventFunction (side_of_both right_new) w (Right p))
    right_is_function =
        with_ok result (IsFunctionOf e.right w p) (HasCountedStart e.right (signal_start p) w.children e.right_count d) (IsEventFunction (side_of_both right_new) w (Right p)) (λ r f k. right_function e.left e.right w right_kept p r f k.nodes) function counted

    pub right_is_counted : OnOk result (GoOnCounting B p e right_new)
    right_is_counted = on_ok result (HasCountedStart e.right (signal_start p) w.children e.right_count d) (GoOnCounting B p e right_new) (λ k. right_goes_on e kept w d p counting k) counted

    pub right_is_within : IsWithinLimits e → OnOk result (IsWithinLimits right_new)
    right_is_within before = on_ok result (HasCountedStart e.right (signal_start p) w.children e.right_count d) (IsWithinLimits right_new) (λ k. record {
      starts = record { left = before.starts.left; right = before.starts.right ++ signal_start p ∷ []; counted = right_goes_on e kept w d p counting k before.starts.left before.starts.right before.starts.counted };
      left = before.left;
      right = k.on.weighed;
      nodes = k.on.few;
    }) counted

    pub right_is_refused : IsRefusedBy B p e result
    right_is_refused = record {
      many = λ same. right_many e kept w d p counting is (refused.many same);
      large = λ same. right_large e kept w d p counting (refused.few same) events.right_depths (λ starts h before. refused.large same starts h before);
    }

-- What was counted, with the signals of pairs.
use Rattle.std.proofs.Common.{◌≡◌, ◌∙◌, ◌+◌, ◌<◌, ℕ, List, [], ◌∷◌, ◌++◌, length, map, take, get_or, sym, ap, subst, append_assoc, append-nil}
use Rattle.std.proofs.lemmas.List.{map-append, take_more}
use Rattle.circuit_theory.specs.declared.Side.TheVariants.{A, B}
use Rattle.circuit_theory.specs.EventSizes.{Start}
use Rattle.event_classes.specs.event_functions.Functions.{signal_start}
use Rattle.sec_setup.specs.declared.ports.pairs.SignalPair.{SignalPair}
use Rattle.event_form.specs.event_agreement.pair_events.Counted.{HaveCounted, GoOnCounting}
use Rattle.event_form.specs.event_agreement.pair_events.View.{EventsView, IsWithinLimits}
use Rattle.event_form.specs.Asked.{HasGraphMore}
use Rattle.event_form.specs.Counted.{CountPairOn, CountsOn, left_starts, right_starts}

-- nodes of the and-inverter graph aren't counted
pub counted_same : (old new : EventsView) → HasGraphMore old new → (left right : List (Start ℕ)) → HaveCounted old left right → HaveCounted new left right
counted_same old new more left right k =
    subst (λ (e : EventsView). HaveCounted e left right) (sym more.same) (record { left_counted = k.left_counted; right_counted = k.right_counted; left_nodes = k.left_nodes; right_nodes = k.right_nodes; only = k.only })

pub within_same : (old new : EventsView) → HasGraphMore old new → IsWithinLimits old → IsWithinLimits new
within_same old new more k =
    let c = k.starts.counted in
    subst IsWithinLimits (sym more.same) (record {
      starts = record {
        left = k.starts.left;
        right = k.starts.right;
        counted = record { left_counted = c.left_counted; right_counted = c.right_counted; left_nodes = c.left_nodes; right_nodes = c.right_nodes; only = c.only };
      };
      left = k.left;
      right = k.right;
      nodes = k.nodes;
    })

-- a pair is counted, first in A, then in B
pub pair_counted : (old mid then new : EventsView) (p : SignalPair) → GoOnCounting A p.left.0 old mid → GoOnCounting B p.right.0 mid then → HasGraphMore then new → CountPairOn p old new
pair_counted old mid then new p first second more left right k =
    counted_same then new more (left ++ signal_start p.left.0 ∷ []) (right ++ signal_start p.right.0 ∷ []) (second (left ++ signal_start p.left.0 ∷ []) right (first left right k))

-- no pair is counted yet
pub none_counted : (e : EventsView) → CountsOn [] e e
none_counted e left right k = subst (λ (xs : List (Start ℕ)). HaveCounted e xs (right ++ [])) (sym (append-nil left)) (subst (HaveCounted e left) (sym (append-nil right)) k)

-- one pair more
pub counted_next : (old mid new : EventsView) (pairs : List SignalPair) (i : ℕ) (p : SignalPair) → i < length pairs → get_or pairs i p ≡ p → CountsOn (take i pairs) old mid → CountPairOn p mid new → CountsOn (take (i + 1) pairs) old new
counted_next old mid new pairs i p inside at before pair left right k =
    subst (λ (xs : List (Start ℕ)). HaveCounted new xs (right ++ right_starts (take (i + 1) pairs))) (sym (more left (λ (q : SignalPair). signal_start q.left.0)))
    (subst (HaveCounted new ((left ++ left_starts (take i pairs)) ++ signal_start p.left.0 ∷ [])) (sym (more right (λ (q : SignalPair). signal_start q.right.0)))
    (pair (left ++ left_starts (take i pairs)) (right ++ right_starts (take i pairs)) (before left right k)))
  where
    front : take (i + 1) pairs ≡ take i pairs ++ p ∷ []
    front = take_more pairs i p inside ∙ ap (λ (q : SignalPair). take i pairs ++ q ∷ []) at

    more : (xs : List (Start ℕ)) (f : SignalPair → Start ℕ) → xs ++ map f (take (i + 1) pairs) ≡ (xs ++ map f (take i pairs)) ++ f p ∷ []
    more xs f = ap (λ (ps : List SignalPair). xs ++ map f ps) front ∙ (ap (λ (ys : List (Start ℕ)). xs ++ ys) (map-append f (take i pairs) (p ∷ [])) ∙ sym (append_assoc xs (map f (take i pairs)) (f p ∷ [])))

-- the first signal of a pair is counted
pub left_counted : (old mid : EventsView) (p : ℕ) → GoOnCounting A p old mid → (left right : List (Start ℕ)) → HaveCounted old left right → HaveCounted mid (left ++ signal_start p ∷ []) (right ++ [])
left_counted old mid p count left right k = subst (HaveCounted mid (left ++ signal_start p ∷ [])) (sym (append-nil right)) (count left right k)

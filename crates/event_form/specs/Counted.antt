-- What was counted goes on with the signals of pairs.
use Rattle.std.specs.Prelude.{ℕ, List, [], ◌∷◌, ◌++◌, map}
use Rattle.circuit_theory.specs.EventSizes.{Start}
use Rattle.event_classes.specs.event_functions.Functions.{signal_start}
use Rattle.sec_setup.specs.declared.ports.pairs.SignalPair.{SignalPair}
use Rattle.event_form.specs.event_agreement.pair_events.Counted.{HaveCounted}
use Rattle.event_form.specs.event_agreement.pair_events.View.{EventsView}

-- the starts of these pairs, in A and in B
abbrev pub left_starts : List SignalPair → List (Start ℕ)
left_starts pairs = map (λ (p : SignalPair). signal_start p.left.0) pairs

abbrev pub right_starts : List SignalPair → List (Start ℕ)
right_starts pairs = map (λ (p : SignalPair). signal_start p.right.0) pairs

-- with one pair more
abbrev pub CountPairOn : SignalPair → EventsView → EventsView → Type 0
CountPairOn p old new = (left right : List (Start ℕ)) → HaveCounted old left right → HaveCounted new (left ++ signal_start p.left.0 ∷ []) (right ++ signal_start p.right.0 ∷ [])

-- with all these pairs
abbrev pub CountsOn : List SignalPair → EventsView → EventsView → Type 0
CountsOn pairs old new = (left right : List (Start ℕ)) → HaveCounted old left right → HaveCounted new (left ++ left_starts pairs) (right ++ right_starts pairs)

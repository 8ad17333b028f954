-- What is counted of both circuits with a signal more, and why a signal isn't unfolded.
use Rattle.std.specs.Prelude.{◌≡◌, ℕ, List, [], ◌∷◌, ◌++◌, Result, Err}
use Rattle.circuit_theory.specs.declared.Side.{Side}
use Rattle.circuit_theory.specs.declared.Side.TheVariants.{A, B}
use Rattle.circuit_theory.specs.EventSizes.{Start, IsEventOver}
use Rattle.circuit_theory.specs.EventTotals.{IsNodesOver, IsNodesWithin}
use Rattle.event_nodes.specs.View.{side_of, Enabled}
use Rattle.event_nodes.specs.declared.error.EventUnfoldError.{EventUnfoldError}
use Rattle.event_nodes.specs.declared.error.EventUnfoldError.TheVariants as unfold_error
use Rattle.event_classes.specs.event_functions.Functions.{signal_start}
use Rattle.event_form.specs.event_agreement.pair_events.View.{EventsView, side_of_both, circuit_at}
pub use Rattle.event_form.specs.event_agreement.pair_events.View.{moved_latch, moved_start, both_starts, HaveCounted}

-- the starts of a side, with one more of this signal
abbrev pub left_with : Side → ℕ → List (Start ℕ) → List (Start ℕ)
left_with A p left = left ++ signal_start p ∷ []
left_with B p left = left

abbrev pub right_with : Side → ℕ → List (Start ℕ) → List (Start ℕ)
right_with A p right = right
right_with B p right = right ++ signal_start p ∷ []

-- those of the side
abbrev pub starts_with : Side → ℕ → List (Start ℕ) → List (Start ℕ) → List (Start ℕ)
starts_with A p left right = left ++ signal_start p ∷ []
starts_with B p left right = right ++ signal_start p ∷ []

-- what was counted goes on with the signal
abbrev pub GoOnCounting : Side → ℕ → EventsView → EventsView → Type 0
GoOnCounting side p old new = (left right : List (Start ℕ)) → HaveCounted old left right → HaveCounted new (left_with side p left) (right_with side p right)

-- with the signal the unfoldings reach more than 10,000 event nodes
abbrev pub AreTooMany : Side → ℕ → EventsView → Type 0
AreTooMany side p e = (left right : List (Start ℕ)) → HaveCounted e left right → IsNodesOver (side_of_both e) (both_starts (left_with side p left) (right_with side p right)) 10000

-- they don't, and those of the signal's circuit weigh more than 2,000,000
pub record IsTooLarge (side : Side) (p : ℕ) (e : EventsView) : Type 0 where
  pub over : (left right : List (Start ℕ)) → HaveCounted e left right → IsEventOver (side_of (circuit_at side e)) (Enabled (circuit_at side e)) (starts_with side p left right) 2000000
  pub within : (left right : List (Start ℕ)) → HaveCounted e left right → IsNodesWithin (side_of_both e) (both_starts (left_with side p left) (right_with side p right)) 10000

-- Why the signal isn't unfolded.
pub record IsRefusedBy {X : Type 0} (side : Side) (p : ℕ) (e : EventsView) (result : Result X EventUnfoldError) : Type 0 where
  pub many : result ≡ Err unfold_error.TooManyEvents → AreTooMany side p e
  pub large : result ≡ Err unfold_error.TooLarge → IsTooLarge side p e

-- Where the unfolding of pairs stops: at the first signal with which a number is passed. The pairs are unfolded in order, each first in A, then in B.
use Rattle.std.specs.Prelude.{◌≡◌, ℕ, List, [], ◌∷◌, ◌++◌, Result, Err}
use Rattle.circuit_theory.specs.declared.Side.{Side}
use Rattle.circuit_theory.specs.declared.Side.TheVariants.{A, B}
use Rattle.circuit_theory.specs.EventSizes.{Start}
use Rattle.event_form.specs.event_agreement.pair_events.Laws.{AreKept}
use Rattle.sec_setup.specs.declared.ports.pairs.SignalPair.{SignalPair}
use Rattle.event_form.specs.event_agreement.pair_events.Counted.{HaveCounted, AreTooMany, IsTooLarge}
use Rattle.event_form.specs.event_agreement.pair_events.View.{EventsView, IsWithinLimits}
use Rattle.event_form.specs.event_agreement.pair_events.Within.{IsCountedOnce}
use Rattle.event_form.specs.declared.error.EventFormError.{EventFormError}
use Rattle.event_form.specs.declared.error.EventFormError.TheVariants as form_error
use Rattle.event_form.specs.Asked.{IsLater}
use Rattle.event_form.specs.Counted.{left_starts, right_starts}

-- the pair's signal in the circuit of this side
abbrev pub signal_of : Side → SignalPair → ℕ
signal_of A p = p.left.0
signal_of B p = p.right.0

-- Where these pairs come before it: the pairs whose signals are unfolded before that signal, in A and in B,
abbrev pub lefts_before : Side → List SignalPair → SignalPair → List SignalPair
lefts_before A before p = before
lefts_before B before p = before ++ p ∷ []

abbrev pub rights_before : Side → List SignalPair → SignalPair → List SignalPair
rights_before side before p = before

-- and with it
abbrev pub lefts_with : Side → List SignalPair → SignalPair → List SignalPair
lefts_with side before p = before ++ p ∷ []

abbrev pub rights_with : Side → List SignalPair → SignalPair → List SignalPair
rights_with A before p = before
rights_with B before p = before ++ p ∷ []

-- what is known when the signal comes: what was made and counted for all before it, which is within the limits
pub record IsReachedAt (before : List SignalPair) (p : SignalPair) (side : Side) (e at : EventsView) : Type 0 where
  pub later : IsLater e at
  pub kept : AreKept at.left at.right at.events
  pub once : IsCountedOnce at
  pub within : IsWithinLimits at
  pub counted : (left right : List (Start ℕ)) → HaveCounted e left right → HaveCounted at (left ++ left_starts (lefts_before side before p)) (right ++ right_starts (rights_before side before p))

-- the first signal of these pairs that can't be unfolded
pub record IsFirstStop (pairs : List SignalPair) (e : EventsView) (side : Side) : Type 0 where
  pub before : List SignalPair
  pub pair : SignalPair
  pub after : List SignalPair
  pub split : pairs ≡ before ++ pair ∷ after
  pub at : EventsView
  pub reached : IsReachedAt before pair side e at

-- With that signal more than 10,000 event nodes are reached; or no more are, and what its circuit's unfoldings visit weighs more than 2,000,000.
pub record IsStoppedFor {X : Type 0} (pairs : List SignalPair) (e : EventsView) (result : Result X EventFormError) : Type 0 where
  pub many : result ≡ Err form_error.TooManyEvents → (side : Side) × (n : IsFirstStop pairs e side) × AreTooMany side (signal_of side n.pair) n.at
  pub large : (side : Side) → result ≡ Err (form_error.TooLarge side) → (n : IsFirstStop pairs e side) × IsTooLarge side (signal_of side n.pair) n.at

-- the same of one pair
pub record IsPairStopped {X : Type 0} (p : SignalPair) (e : EventsView) (result : Result X EventFormError) : Type 0 where
  pub many : result ≡ Err form_error.TooManyEvents → (side : Side) × (at : EventsView) × IsReachedAt [] p side e at × AreTooMany side (signal_of side p) at
  pub large : (side : Side) → result ≡ Err (form_error.TooLarge side) → (at : EventsView) × IsReachedAt [] p side e at × IsTooLarge side (signal_of side p) at

-- and of one signal
pub record IsSignalStopped {X : Type 0} (side : Side) (p : ℕ) (e : EventsView) (result : Result X EventFormError) : Type 0 where
  pub many : result ≡ Err form_error.TooManyEvents → AreTooMany side p e
  pub large : (other : Side) → result ≡ Err (form_error.TooLarge other) → (side ≡ other) × IsTooLarge side p e

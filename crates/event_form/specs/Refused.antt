-- Why pairs aren't asked about.
use Rattle.std.specs.Prelude.{◌≡◌, ℕ, List, ◌++◌, Result, Ok, Err}
use Rattle.circuit_theory.specs.declared.Side.{Side}
use Rattle.circuit_theory.specs.declared.Side.TheVariants.{A, B}
use Rattle.circuit_theory.specs.EventSizes.{Start, IsEventOver}
use Rattle.circuit_theory.specs.EventTotals.{IsNodesOver}
use Rattle.event_nodes.specs.View.{side_of, Enabled}
use Rattle.event_nodes.specs.declared.error.EventUnfoldError.{EventUnfoldError}
use Rattle.event_nodes.specs.declared.error.EventUnfoldError.TheVariants as unfold_error
use Rattle.event_form.specs.event_agreement.pair_events.Counted.{both_starts, HaveCounted}
use Rattle.event_form.specs.event_agreement.pair_events.View.{EventsView, circuit_at, side_of_both}
use Rattle.event_form.specs.declared.error.EventFormError.{EventFormError}
use Rattle.event_form.specs.declared.error.EventFormError.TheVariants as form_error

-- the starts of a side
abbrev pub starts_at : Side → List (Start ℕ) → List (Start ℕ) → List (Start ℕ)
starts_at A left right = left
starts_at B left right = right

-- With these starts more the unfoldings of both circuits reach more than 10,000 event nodes, or those of the circuit that is told weigh more than
-- 2,000,000, where what was counted before is what the starts before visit.
pub record IsRefusedFor {X : Type 0} (lefts rights : List (Start ℕ)) (e : EventsView) (result : Result X EventFormError) : Type 0 where
  pub many : result ≡ Err form_error.TooManyEvents → (left right : List (Start ℕ)) → HaveCounted e left right → IsNodesOver (side_of_both e) (both_starts (left ++ lefts) (right ++ rights)) 10000
  pub large : (side : Side) → result ≡ Err (form_error.TooLarge side) → (left right : List (Start ℕ)) → HaveCounted e left right →
      IsEventOver (side_of (circuit_at side e)) (Enabled (circuit_at side e)) (starts_at side (left ++ lefts) (right ++ rights)) 2000000

-- what the unfolding of a signal gives, as the form tells it
abbrev pub IsToldAs : {X : Type 0} → Side → Result X EventUnfoldError → Result X EventFormError → Type 0
IsToldAs side (Ok x) told = told ≡ Ok x
IsToldAs side (Err unfold_error.TooManyEvents) told = told ≡ Err form_error.TooManyEvents
IsToldAs side (Err unfold_error.TooLarge) told = told ≡ Err (form_error.TooLarge side)
IsToldAs side (Err unfold_error.NoMemory) told = told ≡ Err form_error.NoMemory

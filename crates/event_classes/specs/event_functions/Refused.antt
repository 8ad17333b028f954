-- Why a start isn't unfolded.
use Rattle.std.specs.Prelude.{◌≡◌, ℕ, ◌<◌, ◌≤◌, List, length, Result, Err, All, Contains}
use Rattle.circuit_theory.specs.Depth.{LatchesHaveDepths}
use Rattle.circuit_theory.specs.EventSizes.{Start, IsEventOver}
use Rattle.event_nodes.specs.event_variables.flat_net.View.{NetView, circuit_of}
use Rattle.base_tables.specs.Table.{AreDistinct}
use Rattle.event_nodes.specs.declared.error.EventUnfoldError.{EventUnfoldError}
use Rattle.event_nodes.specs.declared.error.EventUnfoldError.TheVariants as unfold_error
use Rattle.event_nodes.specs.View.{EventCircuitView, side_of, Enabled}
use Rattle.event_nodes.specs.Visited.{IsVisitedPair, HoldsNodes, places_weight}

-- distinct places weigh too much
pub record IsOverweight (n : NetView) (places : List (ℕ × ℕ)) : Type 0 where
  pub distinct : AreDistinct places
  pub weight : 2000000 < places_weight n places

-- the start alone weighs too much, and so does it with others
abbrev pub IsTooHeavy : EventCircuitView → Start ℕ → Type 0
IsTooHeavy e x = (starts : List (Start ℕ)) → Contains starts x → IsEventOver (side_of e) (Enabled e) starts 2000000

-- all event nodes that the start reaches were made, and with the root they are no more than 10,000
pub record HasFewNodes (e : EventCircuitView) (children : List (ℕ × ℕ)) (x : Start ℕ) : Type 0 where
  pub few : length children < 10000
  pub all : LatchesHaveDepths (circuit_of e.net) (Enabled e) → HoldsNodes e children x

-- Where it is refused, there are too many event nodes; or there aren't, and this start weighs too much with those that were counted before.
pub record IsRefusal {X : Type 0} (e : EventCircuitView) (old new : List (ℕ × ℕ)) (x : Start ℕ) (counted : List (ℕ × ℕ)) (result : Result X EventUnfoldError) : Type 0 where
  pub many : result ≡ Err unfold_error.TooManyEvents → 10000 ≤ length new
  pub few : result ≡ Err unfold_error.TooLarge → HasFewNodes e new x
  pub large : result ≡ Err unfold_error.TooLarge → (starts : List (Start ℕ)) → Contains starts x → All (IsVisitedPair e old starts) counted → IsEventOver (side_of e) (Enabled e) starts 2000000

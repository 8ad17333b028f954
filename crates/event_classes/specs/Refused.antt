-- Why no class map is made. Each cause asks that all that came before it was within its number.
use Rattle.std.specs.Prelude.{◌≡◌, ◌≢◌, ◌⊎◌, ℕ, ◌<◌, ◌≤◌, List, [], ◌∷◌, ◌++◌, length, Option, Some, Result, Err, Contains}
use Rattle.std.specs.List.{AllPairs}
use Rattle.circuit_theory.specs.declared.Side.{Side}
use Rattle.circuit_theory.specs.Joined.{Either}
use Rattle.circuit_theory.specs.Run.{IsEnabled}
use Rattle.circuit_theory.specs.Classes.{classes_of}
use Rattle.circuit_theory.specs.EventTotals.{IsMapSoFar, IsClassesOver}
use Rattle.sec_base.specs.declared.basics.Tag.{Tag}
use Rattle.event_nodes.specs.View.{EventCircuitView}
use Rattle.class_search.specs.event_order.Order.{place_of, IsTagOf}
use Rattle.edbf_unfold.specs.class_queries.Enables.{both_of}
use Rattle.event_classes.specs.event_functions.class_totals.Totals.{AreWithin, ReachTooMany, ReachFew, WeighTooMuch}
use Rattle.class_search.specs.pair_decide.Proof.{Proof}
use Rattle.event_classes.specs.declared.error.EventError.{EventError}
use Rattle.event_classes.specs.declared.error.EventError.TheVariants as event_error
use Rattle.event_classes.specs.Limits.{IsLimitQuery}

-- more than 30,000 latches of both circuits are enabled
pub record AreManyLatches (a b : EventCircuitView) : Type 0 where
  pub latches : List (Either ℕ ℕ)
  pub distinct : AllPairs (λ u v. u ≢ v) latches
  pub enabled : (u : Either ℕ ℕ) → Contains latches u → IsEnabled (both_of a b).circuit u
  pub many : 30000 < length latches

-- The class map as far as it goes, with the next latch: no more than 30,000 latches are enabled, and of those before it the event nodes, the weights
-- and the classes are within their numbers.
pub record IsNextLatch (a b : EventCircuitView) (v : Either ℕ ℕ) : Type 0 where
  pub left : EventCircuitView
  pub right : EventCircuitView
  pub left_is : left ≡ record a { classes = left.classes }
  pub right_is : right ≡ record b { classes = right.classes }
  pub taken : List (Either ℕ ℕ)
  pub rest : List (Either ℕ ℕ)
  pub so_far : IsMapSoFar (both_of left right) taken (v ∷ rest)
  pub latches : length (taken ++ v ∷ rest) ≤ 30000
  pub within : AreWithin left right taken
  pub classes : classes_of (both_of left right) taken ≤ 500

-- More than 30,000 latches are enabled; or with the next latch more than 10,000 event nodes are reached; or all is within its numbers with it, and it
-- would found class 501.
abbrev pub IsTooMany : EventCircuitView → EventCircuitView → Type 0
IsTooMany a b =
    AreManyLatches a b
    ⊎ ((v : Either ℕ ℕ) × (n : IsNextLatch a b v) × (ReachTooMany n.left n.right (n.taken ++ v ∷ []) ⊎ (AreWithin n.left n.right (n.taken ++ v ∷ []) × IsClassesOver (both_of n.left n.right) n.taken v 500)))

-- With the next latch what this circuit's unfoldings visit weighs more than 2,000,000, and no more than 10,000 event nodes are reached.
abbrev pub IsTooHeavy : EventCircuitView → EventCircuitView → Side → Type 0
IsTooHeavy a b side = (v : Either ℕ ℕ) × (n : IsNextLatch a b v) × ReachFew n.left n.right (n.taken ++ v ∷ []) × WeighTooMuch side n.left n.right (n.taken ++ v ∷ [])

-- Where all is within its numbers with the next latch, a query of it met the limit.
pub record IsLimitOf (a b : EventCircuitView) (latch : Tag) (other : Option Tag) (conflicts : ℕ) (proof : Proof) : Type 0 where
  pub names : IsTagOf a.net b.net latch
  pub other_names : (t : Tag) → other ≡ Some t → IsTagOf a.net b.net t
  pub next : IsNextLatch a b (place_of a.net b.net latch)
  pub within : AreWithin next.left next.right (next.taken ++ place_of a.net b.net latch ∷ [])
  pub query : IsLimitQuery (both_of next.left next.right) (place_of a.net b.net) next.taken (place_of a.net b.net latch) other conflicts proof

-- Why the class map of both circuits is refused.
pub record IsRefusedMap {X : Type 0} (a b : EventCircuitView) (conflicts : ℕ) (result : Result X EventError) : Type 0 where
  pub many : result ≡ Err event_error.TooManyEvents → IsTooMany a b
  pub large : (side : Side) → result ≡ Err (event_error.TooLarge side) → IsTooHeavy a b side
  pub limit : (latch : Tag) (other : Option Tag) (proof : Proof) → result ≡ Err (event_error.Limit latch other proof) → IsLimitOf a b latch other conflicts proof

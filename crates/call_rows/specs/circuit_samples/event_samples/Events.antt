-- Runs of the samples in which places are settled, and what the event form says of them.
use Rattle.std.specs.Prelude.{◌≡◌, ℕ, Bool, List, [], ◌∷◌, ◌++◌, None}
use Rattle.std.specs.List.{Contains}
use Rattle.circuit_theory.specs.declared.Mode.TheVariants.{Event}
use Rattle.circuit_theory.specs.Circuit.{Circuit}
use Rattle.circuit_theory.specs.Run.{IsEnabled, IsDetermined}
use Rattle.circuit_theory.specs.Query.{Variable}
use Rattle.circuit_theory.specs.Agree.{cut, AreAlike, IsSettled}
use Rattle.circuit_theory.specs.Joined.{Either, Left, Right, joined, beside}
use Rattle.circuit_theory.specs.Frame.{ConeLatches, EventCycle, IsNumberedRun, IsNode, HasEvents, AreFrameValues}
use Rattle.circuit_theory.specs.Classes.{HasClasses, classes_of}
use Rattle.circuit_theory.specs.EventFits.{side_by_side}
use Rattle.circuit_theory.specs.EventSizes.{Start}
use Rattle.circuit_theory.specs.EventTotals.{StartLatches, IsMapSoFar}
use Rattle.circuit_theory.specs.Reached.{LatchAtNode, AreReached, IsClosed}
use Rattle.circuit_laws.specs.event_laws.ClassSteps.{IsFirstFit, HaveTwinEnables}
use Rattle.call_rows.specs.circuit_samples.event_samples.Samples.{before, behind, exposed, numbers, class_of, opened_both, opened_side}

-- two classes besides `always`
abbrev pub HasTwoClasses : Type 0
HasTwoClasses = (c : HasClasses opened_side) × (classes_of opened_side c.order ≡ 2)

-- A run in which y of both sides is settled in cycle 1. Both reach the child by class 1 of the root, and its cycle is 0.
pub record HasSettledPair : Type 0 where
  pub run : ℕ → Either ℕ ℕ → Bool
  pub numbered : IsNumberedRun opened_side 2 run
  pub left_settled : IsSettled Event opened_both run 1 (Left 10)
  pub right_settled : IsSettled Event opened_both run 1 (Right 10)
  pub left_node : IsNode opened_side (IsEnabled opened_both) (ConeLatches opened_both (Left 10)) (1 ∷ [])
  pub right_node : IsNode opened_side (IsEnabled opened_both) (ConeLatches opened_both (Right 10)) (1 ∷ [])
  pub left_cycle : EventCycle opened_side (IsEnabled opened_both) (ConeLatches opened_both (Left 10)) run 1 (1 ∷ []) 0
  pub right_cycle : EventCycle opened_side (IsEnabled opened_both) (ConeLatches opened_both (Right 10)) run 1 (1 ∷ []) 0
  pub events : HasEvents opened_side (IsEnabled opened_both) run 1 (Left 10)

-- the places p and q of two circuits reach the child by class 1 of the root, whose cycle is 0
pub record ReachOneNode (a b : Circuit ℕ) (l r : ℕ → ℕ → Bool) (p q : ℕ) : Type 0 where
  pub left_node : IsNode (side_by_side a b numbers numbers class_of) (IsEnabled (joined a b)) (ConeLatches (joined a b) (Left p)) (1 ∷ [])
  pub right_node : IsNode (side_by_side a b numbers numbers class_of) (IsEnabled (joined a b)) (ConeLatches (joined a b) (Right q)) (1 ∷ [])
  pub left_cycle : EventCycle (side_by_side a b numbers numbers class_of) (IsEnabled (joined a b)) (ConeLatches (joined a b) (Left p)) (λ s. beside (l s) (r s)) 1 (1 ∷ []) 0
  pub right_cycle : EventCycle (side_by_side a b numbers numbers class_of) (IsEnabled (joined a b)) (ConeLatches (joined a b) (Right q)) (λ s. beside (l s) (r s)) 1 (1 ∷ []) 0

-- two runs of the circuits themselves, in which t toggles and z is settled in cycle 1
pub record HasExposedSettledPair : Type 0 where
  pub left : ℕ → ℕ → Bool
  pub right : ℕ → ℕ → Bool
  pub alike : AreAlike before behind 2 left right
  pub left_settled : IsSettled Event before left 1 9
  pub right_settled : IsSettled Event behind right 1 9
  pub nodes : ReachOneNode (cut exposed before) (cut exposed behind) left right 9 9

-- each frame has values
abbrev pub FramesHaveValues : Type 0
FramesHaveValues = (bits : ℕ → List ℕ → Bool) → (w : List ℕ → Either ℕ ℕ → Bool) × AreFrameValues opened_side (IsEnabled opened_both) bits w

-- the class map when one latch is taken, and when two are
abbrev pub HasMapsSoFar : Type 0
HasMapsSoFar = IsMapSoFar opened_side (Left 3 ∷ []) (Left 5 ∷ Right 3 ∷ Right 5 ∷ []) × IsMapSoFar opened_side ((Left 3 ∷ []) ++ (Left 5 ∷ [])) (Right 3 ∷ Right 5 ∷ [])

-- the next latch is given its first fit
abbrev pub HasFirstFit : Type 0
HasFirstFit = IsFirstFit opened_side (Left 3 ∷ []) (Left 5) (class_of (Left 5)) × IsMapSoFar opened_side ((Left 3 ∷ []) ++ (Left 5 ∷ [])) (Right 3 ∷ Right 5 ∷ [])

-- the second circuit's q has the enable and the care of the first one's, and so its class
abbrev pub HasTwin : Type 0
HasTwin = HaveTwinEnables opened_side (Right 3) (Left 3) × IsFirstFit opened_side (Left 3 ∷ Left 5 ∷ []) (Right 3) (class_of (Left 3))

-- the unfolding of y of the first circuit
abbrev pub start_y : List (Start (Either ℕ ℕ))
start_y = record { place = Left 10; left_out = None } ∷ []

-- it reaches q and r at the root
abbrev pub reached_y : List (LatchAtNode (Either ℕ ℕ))
reached_y = record { latch = Left 3; node = [] } ∷ record { latch = Left 5; node = [] } ∷ []

pub record HasReachedList : Type 0 where
  pub determined : (x : Start (Either ℕ ℕ)) → Contains start_y x → IsDetermined opened_both x.place
  pub closed : IsClosed opened_side (IsEnabled opened_both) (StartLatches opened_side start_y) reached_y
  pub reached : AreReached opened_side (IsEnabled opened_both) (StartLatches opened_side start_y) reached_y

-- an input at the root
abbrev pub root_variable : ℕ → Variable (List ℕ)
root_variable i = record { input = i; at = [] }

-- all four latches, in their order
abbrev pub opened_order : List (Either ℕ ℕ)
opened_order = Left 3 ∷ Left 5 ∷ Right 3 ∷ Right 5 ∷ []

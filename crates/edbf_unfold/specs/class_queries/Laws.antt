-- What follows for the classes of latches. Each law is the contract of a function of this crate.
use Rattle.std.specs.Prelude.{◌≡◌, ◌≢◌, ℕ, Bool, List, [], ◌∷◌, ◌++◌, slice_get, Some, Contains}
use Rattle.circuit_theory.specs.Circuit.{Circuit}
use Rattle.circuit_theory.specs.Depth.{LatchesHaveDepths}
use Rattle.circuit_theory.specs.Joined.{Either, Left, Right, joined}
use Rattle.circuit_theory.specs.Net.{IsNet}
use Rattle.circuit_theory.specs.Run.{IsEnabled}
use Rattle.circuit_theory.specs.Frame.{EventSide}
use Rattle.circuit_theory.specs.Classes.{EnablesEqual, EnablesDiffer, AlwaysEnabled, SometimesOff}
use Rattle.circuit_theory.specs.EventFits.{side_by_side}
use Rattle.circuit_theory.specs.EventTotals.{IsMapSoFar}
use Rattle.edbf_unfold.specs.ClassSteps.{HaveTwinEnables}
use Rattle.event_nodes.specs.flat_net.LatchAt.{LatchAt}
use Rattle.event_nodes.specs.flat_net.Sound.{IsSound}
use Rattle.edbf_unfold.specs.Nodes.{EventGraphView, IsEventGraph, GrowsEvents}
use Rattle.edbf_unfold.specs.View.{EventCircuitView, IsEventCircuit, Enabled}
use Rattle.edbf_unfold.specs.Care.{IsCareLit}
use Rattle.edbf_unfold.specs.event_literals.Known.{IsEnableLit}
use Rattle.edbf_unfold.specs.event_literals.event_walk.Walk.{enable_start}
use Rattle.edbf_unfold.specs.class_queries.Enables.{both_of, IsEnableFunction, AsksEnables, IsSame, Distinguishes}

-- what both circuits and the event graph keep
pub record AreKept (a b : EventCircuitView) (w : EventGraphView) : Type 0 where
  pub left_sound : IsSound a.net
  pub right_sound : IsSound b.net
  pub left : IsEventCircuit a
  pub right : IsEventCircuit b
  pub events : IsEventGraph w

-- The literals that a circuit's unfolding gives for the enable of an enabled latch and for its care say the same of both circuits side by side.
abbrev pub EnableLitsAreFunctions : Type 0
EnableLitsAreFunctions = (a b : EventCircuitView) (w : EventGraphView) → AreKept a b w →
    ((j : ℕ) (l : LatchAt) (enable care : ℕ) → slice_get a.net.latches j ≡ Some l → Enabled a l.out.0 → IsEnableLit a w [] l enable → IsCareLit a w (enable_start l) care → IsEnableFunction (both_of a b) w (Left l.out.0) enable care)
    × ((j : ℕ) (l : LatchAt) (enable care : ℕ) → slice_get b.net.latches j ≡ Some l → Enabled b l.out.0 → IsEnableLit b w [] l enable → IsCareLit b w (enable_start l) care → IsEnableFunction (both_of a b) w (Right l.out.0) enable care)

-- Latches whose enables and cares have equal literals have twin enables.
abbrev pub EqualLitsAreTwins : Type 0
EqualLitsAreTwins = (a b : EventCircuitView) (w : EventGraphView) → AreKept a b w → (u v : Either ℕ ℕ) (enable care : ℕ) → IsEnableFunction (both_of a b) w u enable care → IsEnableFunction (both_of a b) w v enable care →
    HaveTwinEnables (both_of a b) v u

-- Where no assignment tells the two enables apart, they are equal.
abbrev pub SameIsEqual : Type 0
SameIsEqual = (a b : EventCircuitView) (w : EventGraphView) → AreKept a b w → (u v : Either ℕ ℕ) (left right care : ℕ) → AsksEnables (both_of a b) w u v left right care → IsSame w left right care → EnablesEqual (both_of a b) u v

-- Where an assignment tells them apart, they differ in a frame with care for both.
abbrev pub DifferenceTellsApart : Type 0
DifferenceTellsApart = (a b : EventCircuitView) (w : EventGraphView) → AreKept a b w → (u v : Either ℕ ℕ) (left right care : ℕ) (x : ℕ → Bool) → AsksEnables (both_of a b) w u v left right care → Distinguishes w left right care x → EnablesDiffer (both_of a b) u v

-- The same against `always`.
abbrev pub SameIsAlways : Type 0
SameIsAlways = (a b : EventCircuitView) (w : EventGraphView) → AreKept a b w → (v : Either ℕ ℕ) (enable care : ℕ) → IsEnableFunction (both_of a b) w v enable care → IsSame w enable 1 care → AlwaysEnabled (both_of a b) v

abbrev pub DifferenceIsOff : Type 0
DifferenceIsOff = (a b : EventCircuitView) (w : EventGraphView) → AreKept a b w → (v : Either ℕ ℕ) (enable care : ℕ) (x : ℕ → Bool) → IsEnableFunction (both_of a b) w v enable care → Distinguishes w enable 1 care x → SometimesOff (both_of a b) v

-- What literals say of the enables of the latches taken so far, and of the next one, stays so whatever class the next one is given.
abbrev pub FunctionsStay : Type 0
FunctionsStay = (a b : Circuit ℕ) (m n : ℕ) (left right : List ℕ) (f g : Either ℕ ℕ → ℕ) (taken rest : List (Either ℕ ℕ)) (v : Either ℕ ℕ) → IsNet a m → IsNet b n → LatchesHaveDepths (joined a b) (IsEnabled (joined a b)) →
    IsMapSoFar (side_by_side a b left right f) taken (v ∷ rest) → ((u : Either ℕ ℕ) → u ≢ v → f u ≡ g u) →
    (w : EventGraphView) (u : Either ℕ ℕ) (enable care : ℕ) → Contains (taken ++ v ∷ []) u → IsEnableFunction (side_by_side a b left right f) w u enable care → IsEnableFunction (side_by_side a b left right g) w u enable care

-- It stays so while the event graph grows.
abbrev pub FunctionsGrow : Type 0
FunctionsGrow = (s : EventSide (Either ℕ ℕ)) (w x : EventGraphView) (u : Either ℕ ℕ) (enable care : ℕ) → IsEventGraph w → GrowsEvents w x → IsEnableFunction s w u enable care → IsEnableFunction s x u enable care

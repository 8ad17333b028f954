-- What literals say of the load enables of two circuits side by side.
use Rattle.std.specs.Prelude.{◌≡◌, ◌≢◌, ◌↔◌, ℕ, ◌*◌, ◌<◌, Bool, true, List, length}
use Rattle.circuit_theory.specs.Joined.{Either, Left, Right}
use Rattle.circuit_theory.specs.Frame.{EventSide}
use Rattle.circuit_theory.specs.Classes.{EnableCare, EnableAtRoot}
use Rattle.circuit_theory.specs.EventFits.{side_by_side}
use Rattle.event_nodes.specs.flat_net.View.{circuit_of}
use Rattle.aig.specs.Rules.{IsAndOf}
use Rattle.aig.specs.Values.{value}
use Rattle.edbf_unfold.specs.Nodes.{EventGraphView}
use Rattle.edbf_unfold.specs.View.{EventCircuitView, class_at}
use Rattle.edbf_unfold.specs.Laws.{TakesFrame}

-- the class of a latch of either circuit
abbrev pub class_map : EventCircuitView → EventCircuitView → Either ℕ ℕ → ℕ
class_map a b (Left p) = class_at a.net.latches a.classes p
class_map a b (Right q) = class_at b.net.latches b.classes q

-- two circuits side by side as the event form sees them
abbrev pub both_of : EventCircuitView → EventCircuitView → EventSide (Either ℕ ℕ)
both_of a b = side_by_side (circuit_of a.net) (circuit_of b.net) a.order b.order (class_map a b)

-- in each frame the first literal has the value of the latch's enable at the root, and the second is 1 exactly where the frame has care for it
pub record IsEnableFunction {P : Type 0} (s : EventSide P) (w : EventGraphView) (u : P) (enable care : ℕ) : Type 0 where
  pub enable_within : enable < 2 * length w.graph
  pub care_within : care < 2 * length w.graph
  pub enable_is : (bits : ℕ → List ℕ → Bool) (a : ℕ → Bool) → TakesFrame w bits a → EnableAtRoot s bits u (value w.graph a enable)
  pub care_is : (bits : ℕ → List ℕ → Bool) (a : ℕ → Bool) → TakesFrame w bits a → (value w.graph a care ≡ true) ↔ EnableCare s bits u

-- the three literals ask whether the enable of the one latch is that of the other wherever both have care
pub record AsksEnables {P : Type 0} (s : EventSide P) (w : EventGraphView) (u v : P) (left right care : ℕ) : Type 0 where
  pub left_care : ℕ
  pub right_care : ℕ
  pub left_is : IsEnableFunction s w u left left_care
  pub right_is : IsEnableFunction s w v right right_care
  pub both : IsAndOf w.graph left_care right_care care

-- they agree wherever the care holds
abbrev pub IsSame : EventGraphView → ℕ → ℕ → ℕ → Type 0
IsSame w left right care = (a : ℕ → Bool) → value w.graph a care ≡ true → value w.graph a left ≡ value w.graph a right

-- under the assignment the care holds, and they differ
pub record Distinguishes (w : EventGraphView) (left right care : ℕ) (a : ℕ → Bool) : Type 0 where
  pub cared : value w.graph a care ≡ true
  pub differ : value w.graph a left ≢ value w.graph a right

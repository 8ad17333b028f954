-- What the variables of event functions are. The law is the contract of a function of this crate.
use Rattle.std.specs.Prelude.{◌≡◌, ℕ, List, [], ◌∷◌, slice_get, Some, Contains}
use Rattle.event_nodes.specs.event_variables.flat_net.Sound.{IsSound}
use Rattle.event_nodes.specs.event_variables.aig.Node.TheVariants.{Input}
use Rattle.event_nodes.specs.event_variables.aig.Cone.{IsReached}
use Rattle.event_nodes.specs.Nodes.{EventGraphView, IsEventGraph}
use Rattle.event_nodes.specs.View.{EventCircuitView, IsEventCircuit}
use Rattle.event_classes.specs.declared.event_functions.signals.SignalFunction.{SignalFunction}
use Rattle.event_classes.specs.event_functions.Functions.{IsFunctionOf}

-- each variable that one of both literals reads is in the list
abbrev pub AreCovered : EventGraphView → List ℕ → ℕ → ℕ → Type 0
AreCovered w vars x y = (n v : ℕ) → IsReached w.graph (x ∷ y ∷ []) n → slice_get w.graph n ≡ Some (Input v) → Contains vars v

-- The variables of a signal's function are all that its value and its care read.
abbrev pub SignalsAreCovered : Type 0
SignalsAreCovered = (e : EventCircuitView) (w : EventGraphView) (p : ℕ) (r : SignalFunction) → IsSound e.net → IsEventCircuit e → IsEventGraph w → IsFunctionOf e w p r → AreCovered w r.vars r.value.0 r.care.0

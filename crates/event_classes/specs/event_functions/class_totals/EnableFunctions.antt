-- When the event function of a load enable is right, and what its variables are.
use Rattle.std.specs.Prelude.{[]}
use Rattle.event_nodes.specs.event_variables.flat_net.LatchAt.{LatchAt}
use Rattle.event_nodes.specs.event_variables.flat_net.Sound.{IsSound}
use Rattle.event_nodes.specs.Nodes.{EventGraphView, IsEventGraph}
use Rattle.event_nodes.specs.View.{EventCircuitView, IsEventCircuit}
use Rattle.event_nodes.specs.event_variables.Inputs.{AreVisitedInputs}
use Rattle.edbf_unfold.specs.event_literals.event_walk.Walk.{enable_start}
use Rattle.edbf_unfold.specs.event_literals.Known.{IsEnableLit}
use Rattle.edbf_unfold.specs.Care.{IsCareLit}
use Rattle.event_classes.specs.event_functions.Laws.{AreCovered}
use Rattle.event_classes.specs.declared.event_functions.class_totals.enables.EnableFunction.{EnableFunction}

-- the value, the care and the variables are those of the latch's enable
pub record IsEnableFunctionOf (e : EventCircuitView) (w : EventGraphView) (l : LatchAt) (r : EnableFunction) : Type 0 where
  pub value : IsEnableLit e w [] l r.value.0
  pub care : IsCareLit e w (enable_start l) r.care.0
  pub vars : AreVisitedInputs e w (enable_start l) r.vars

-- The variables of an enable are all that its value and its care read.
abbrev pub EnablesAreCovered : Type 0
EnablesAreCovered = (e : EventCircuitView) (w : EventGraphView) (l : LatchAt) (r : EnableFunction) → IsSound e.net → IsEventCircuit e → IsEventGraph w → IsEnableFunctionOf e w l r → AreCovered w r.vars r.value.0 r.care.0

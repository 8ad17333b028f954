-- When an event function is right.
use Rattle.std.specs.Prelude.{ℕ, [], None}
use Rattle.circuit_theory.specs.EventSizes.{Start}
use Rattle.event_nodes.specs.Nodes.{EventGraphView}
use Rattle.event_nodes.specs.View.{EventCircuitView}
use Rattle.edbf_unfold.specs.event_literals.Known.{IsKnownAt}
use Rattle.edbf_unfold.specs.Care.{IsCareLit}
use Rattle.edbf_unfold.specs.Reached.{IsReachOf}
use Rattle.event_nodes.specs.event_variables.Inputs.{AreVisitedInputs}
use Rattle.event_classes.specs.declared.event_functions.signals.SignalFunction.{SignalFunction}

-- the start of a signal's function
abbrev pub signal_start : ℕ → Start ℕ
signal_start p = record { place = p; left_out = None }

-- the value, the care and the variables are those of the signal, and so are the nodes that are reached
pub record IsFunctionOf (e : EventCircuitView) (w : EventGraphView) (p : ℕ) (r : SignalFunction) : Type 0 where
  pub value : IsKnownAt e w None p [] r.value.0
  pub care : IsCareLit e w (signal_start p) r.care.0
  pub vars : AreVisitedInputs e w (signal_start p) r.vars
  pub reach : IsReachOf e w.children (signal_start p) r.nodes r.only_always

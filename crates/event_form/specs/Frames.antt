-- Frames that are told: bits of inputs at event nodes.
use Rattle.std.specs.Prelude.{◌≡◌, ℕ, Bool, List, reverse}
use Rattle.std.specs.List.{AllZip}
use Rattle.event_nodes.specs.Nodes.{EventGraphView}
use Rattle.class_search.specs.event_variables.Variables.{variable_of}
use Rattle.event_form.specs.declared.frames.FrameBit.{FrameBit}

-- it tells the variable's input, and its event node by the steps from the root
pub record TellsVariable (w : EventGraphView) (v : ℕ) (x : FrameBit) : Type 0 where
  pub input : x.input ≡ (variable_of w v).input
  pub path : x.path.items ≡ reverse (variable_of w v).at

-- each of these variables is told with its bit, in order
pub record TellsFrame (w : EventGraphView) (vars : List ℕ) (bits : List Bool) (frame : List FrameBit) : Type 0 where
  pub variables : AllZip (TellsVariable w) vars frame
  pub each : AllZip (λ (b : Bool) (x : FrameBit). x.bit ≡ b) bits frame

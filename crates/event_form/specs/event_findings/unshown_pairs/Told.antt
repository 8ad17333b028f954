-- Frames that are told, by the variables that have bits in them.
use Rattle.std.specs.Prelude.{◌≡◌, ℕ, Bool, List, reverse}
use Rattle.std.specs.List.{AllZip}
use Rattle.circuit_theory.specs.Query.{Variable}
use Rattle.event_form.specs.declared.frames.FrameBit.{FrameBit}

-- the input of the variable, and its event node by the steps from the root
pub record TellsVariable (v : Variable (List ℕ)) (x : FrameBit) : Type 0 where
  pub input : x.input ≡ v.input
  pub path : x.path.items ≡ reverse v.at

-- each of these variables is told with its bit, in order
pub record TellsBits (variables : List (Variable (List ℕ))) (bits : List Bool) (frame : List FrameBit) : Type 0 where
  pub told : AllZip TellsVariable variables frame
  pub each : AllZip (λ (bit : Bool) (x : FrameBit). x.bit ≡ bit) bits frame

-- Frames that are told.
use Rattle.std.proofs.Common.{ℕ, Bool, List, [], ◌∷◌}
use Rattle.std.specs.List.{AllZip}
use Rattle.event_nodes.specs.Nodes.{EventGraphView}
use Rattle.class_search.specs.event_variables.Variables.{variables_of}
use Rattle.event_form.specs.declared.frames.FrameBit.{FrameBit}
use Rattle.event_form.specs.Frames as told_frames
use Rattle.event_form.specs.Frames.{TellsFrame}
use Rattle.event_form.specs.event_findings.unshown_pairs.Told.{TellsBits, TellsVariable}

-- what tells numbers of variables tells the variables
variables_told : (w : EventGraphView) (vars : List ℕ) (xs : List FrameBit) → AllZip (told_frames.TellsVariable w) vars xs → AllZip TellsVariable (variables_of w vars) xs
variables_told w [] [] h = tt
variables_told w [] (x ∷ xs) h = absurd h
variables_told w (v ∷ vars) [] h = absurd h
variables_told w (v ∷ vars) (x ∷ xs) h = (record { input = h.0.input; path = h.0.path }, variables_told w vars xs h.1)

pub bits_told : (w : EventGraphView) (vars : List ℕ) (bits : List Bool) (frame : List FrameBit) → TellsFrame w vars bits frame → TellsBits (variables_of w vars) bits frame
bits_told w vars bits frame h = record { told = variables_told w vars frame h.variables; each = h.each }

use Rattle.std.proofs.Common.{◌≤◌, length, drop}
use Rattle.circuit_theory.specs.EventFrames.{frame_of}
use Rattle.circuit_theory.specs.Frame.{bits_as_shifts}
use Rattle.event_nodes.specs.event_variables.Variables.{variables_of}
use Rattle.event_nodes.specs.event_variables.frame_sequences.Frames.{AreRowsOf}
use Rattle.event_nodes.proofs.event_variables.frame_sequences.rows.put_variables.Given as goal

abbrev pub invariant-loop-left : goal.invariant-loop-left
invariant-loop-left l = record {
  within : l.left ≤ length l.vars;
  rows : AreRowsOf l.last l.count (bits_as_shifts (frame_of (variables_of l.events (drop l.left l.vars)) (drop l.left l.bits))) l.rows.items;
}

abbrev pub decreases-loop-left : goal.decreases-loop-left
decreases-loop-left l = l.left

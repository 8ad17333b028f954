-- The rows that are written are the sequence.
use Rattle.std.proofs.Common.{◌∙◌}
use Rattle.std.proofs.lemmas.Result.{IfOk-weaker}
use Rattle.circuit_theory.specs.EventFrames.{frame_of}
use Rattle.circuit_theory.specs.Frame.{bits_as_shifts}
use Rattle.event_nodes.specs.event_variables.Variables.{variables_of}
use Rattle.event_nodes.proofs.event_variables.frame_sequences.Filling.{rows_are}
use Rattle.event_nodes.proofs.event_variables.frame_sequences.rows.frame_rows.Goals as goal

pub returns : goal.returns
returns c = IfOk-weaker c.told_rows.result _ _ (λ told is. is ∙ rows_are c.args.last c.args.count (bits_as_shifts (frame_of (variables_of c.args.events.now c.args.vars.now) c.args.bits.now)) c.put_variables.new.rows.items c.put_variables.ensures) c.told_rows.ensures

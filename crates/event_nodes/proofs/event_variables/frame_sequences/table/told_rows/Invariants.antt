use Rattle.std.proofs.Common.{◌≡◌}
use Rattle.event_nodes.specs.event_variables.frame_sequences.Frames.{rows_in}
use Rattle.event_nodes.proofs.event_variables.frame_sequences.table.told_rows.Given as goal

abbrev pub invariant-loop-row : goal.invariant-loop-row
invariant-loop-row l = l.told ≡ rows_in l.yielded

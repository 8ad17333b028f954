use Rattle.std.proofs.Common.{◌≡◌}
use Rattle.circuit_theory.specs.Sequence.{sequence_rows_from}
use Rattle.cbf_unfold.specs.shift_variables.Sequences.{bits_at}
use Rattle.cbf_unfold.proofs.shift_variables.CycleRows.{IsAtCycle}
use Rattle.cbf_unfold.proofs.shift_variables.rows.rows_of.Given as goal

abbrev pub invariant-loop-cycle : goal.invariant-loop-cycle
invariant-loop-cycle l = record {
  stands : IsAtCycle l.places l.vars l.last l.cycle l.at;
  rows : l.rows ≡ sequence_rows_from l.last (bits_at l.places l.vars l.bits) l.count 0 l.cycle;
}

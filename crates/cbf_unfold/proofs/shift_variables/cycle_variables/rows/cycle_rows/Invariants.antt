use Rattle.std.proofs.Common.{◌≡◌, ◌-◌}
use Rattle.circuit_theory.specs.Sequence.{sequence_rows_from}
use Rattle.cbf_unfold.specs.shift_variables.Sequences.{bits_at}
use Rattle.cbf_unfold.proofs.shift_variables.cycle_variables.CycleWindows.{IsAtCycle}
use Rattle.cbf_unfold.proofs.shift_variables.cycle_variables.rows.cycle_rows.Given as goal

abbrev pub invariant-loop-cycle : goal.invariant-loop-cycle
invariant-loop-cycle l = record {
  stands : IsAtCycle l.places l.vars l.cycle l.at;
  rows : l.rows ≡ sequence_rows_from l.last (λ i k. bits_at l.places l.vars l.bits i (l.last - k)) l.count 0 l.cycle;
}

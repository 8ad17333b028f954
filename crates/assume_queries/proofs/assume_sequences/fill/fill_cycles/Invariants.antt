use Rattle.std.proofs.Common.{◌≡◌, ◌-◌, ℕ, Bool, length}
use Rattle.circuit_theory.specs.Query.{same_shift}
use Rattle.circuit_theory.specs.Sequence.{sequence_rows_from}
use Rattle.circuit_laws.specs.reset_laws.Reset.{reset_rows}
use Rattle.cbf_unfold.specs.shift_variables.Variables.{variables_of}
use Rattle.assume_laws.specs.Sequences.{filled}
use Rattle.assume_queries.specs.assume_sequences.Filled.{bit_of}
use Rattle.assume_queries.proofs.assume_sequences.fill.fill_cycles.Given as goal

abbrev pub invariant-loop-cycle : goal.invariant-loop-cycle
invariant-loop-cycle l =
    (last : ℕ) (x : ℕ → ℕ → Bool) → l.rows ≡ reset_rows last x (length l.meeting) →
    l.made ≡ sequence_rows_from last (λ i k. filled same_shift (variables_of l.table l.sides) (bit_of l.meeting) x i (last - k)) (length l.meeting) 0 l.cycle

use Rattle.std.proofs.Common.{ℕ, Bool, List}
use Rattle.cycle_sim.proofs.Marks.{InputsMarked}
use Rattle.cycle_sim.proofs.cycle_marks.mark_inputs.Given as goal

abbrev pub invariant-loop-port : goal.invariant-loop-port
invariant-loop-port l = (enabled : List Bool) (run : ℕ → ℕ → Bool) (t : ℕ) → InputsMarked l.net enabled run t l.marks l.port-index

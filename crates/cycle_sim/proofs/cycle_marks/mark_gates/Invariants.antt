use Rattle.std.proofs.Common.{ℕ, Bool, List}
use Rattle.cycle_sim.specs.Steps.{AreInputsMarked, AreLatchesMarked}
use Rattle.cycle_sim.proofs.Marks.{GatesMarked}
use Rattle.cycle_sim.proofs.cycle_marks.mark_gates.Given as goal

abbrev pub invariant-loop-gate : goal.invariant-loop-gate
invariant-loop-gate l = (enabled : List Bool) (run : ℕ → ℕ → Bool) (t : ℕ) → AreInputsMarked l.net enabled run t l.initial.marks → AreLatchesMarked l.net enabled run t l.initial.marks → GatesMarked l.net enabled run t l.marks l.gate-index

use Rattle.std.proofs.Common.{ℕ, Bool, List}
use Rattle.cycle_sim.specs.Steps.{AreMarksAhead}
use Rattle.cycle_sim.proofs.Marks.{LatchesMarked}
use Rattle.cycle_sim.proofs.cycle_marks.mark_latches.Given as goal

abbrev pub invariant-loop-j : goal.invariant-loop-j
invariant-loop-j l = (enabled : List Bool) (run : ℕ → ℕ → Bool) (t : ℕ) → AreMarksAhead l.net enabled run t l.latches → LatchesMarked l.net enabled run t l.initial.marks l.marks l.j

use Rattle.std.proofs.Common.{◌+◌, ◌<◌, ℕ, Bool, slice_get, Some, ◌≡◌}
use Rattle.circuit_theory.specs.Circuit.{Meets}
use Rattle.flat_net.specs.declared.parts.LatchAt.{LatchAt}
use Rattle.flat_net.specs.View.{circuit_of}
use Rattle.cycle_sim.specs.View.{HasMark}
use Rattle.cycle_sim.specs.Steps.{HasValues, AreMarks}
use Rattle.cycle_sim.proofs.next_marks.mark_ahead.Given as goal

abbrev pub invariant-loop-j : goal.invariant-loop-j
invariant-loop-j l = record {
  tried : l.tried ≡ l.values;
  ahead : (run : ℕ → ℕ → Bool) (t : ℕ) → Meets (circuit_of l.net) (run t) → HasValues l.net (run t) l.values → AreMarks l.net l.enabled run t l.marks →
      (k : ℕ) (m : LatchAt) → k < l.j → slice_get l.net.latches k ≡ Some m → HasMark l.net l.enabled run (t + 1) l.latches k m.out.0;
}

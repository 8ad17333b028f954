use Rattle.std.proofs.Common.{ℕ, Bool}
use Rattle.circuit_theory.specs.Circuit.{Meets}
use Rattle.flat_net.specs.View.{circuit_of}
use Rattle.cycle_sim.specs.Steps.{AreInputsRight, AreLatchesRight}
use Rattle.cycle_sim.proofs.Values.{GatesBelow}
use Rattle.cycle_sim.proofs.cycles.put_gates.Given as goal

abbrev pub invariant-loop-j : goal.invariant-loop-j
invariant-loop-j l =
    (v : ℕ → Bool) → Meets (circuit_of l.net) v → AreInputsRight l.net v l.initial.values → AreLatchesRight l.net v l.initial.values → GatesBelow l.net l.values l.j v

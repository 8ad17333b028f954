use Rattle.std.proofs.Common.{◌≡◌, ℕ, Bool, length, ◌⊎◌, slice_get}
use Rattle.circuit_theory.specs.Circuit.{Meets}
use Rattle.flat_net.specs.declared.parts.LatchAt.{LatchAt}
use Rattle.flat_net.specs.View.{circuit_of}
use Rattle.signal_graph.specs.inner_cone.Gates.{AreInnerGates}
use Rattle.cycle_sim.specs.Steps.{AreInputsRight, AreLatchesRight, AreAsideRight}
use Rattle.cycle_sim.specs.Turning.{IsOutOfSome}
use Rattle.cycle_sim.proofs.SomeGates.{SomeBelow}
use Rattle.cycle_sim.proofs.flip.put_some.Given as goal

abbrev pub invariant-loop-j : goal.invariant-loop-j
invariant-loop-j l = record {
  size : length l.values ≡ length l.net.drivers;
  put : (m : LatchAt) (v : ℕ → Bool) → AreInnerGates l.net m l.gates → Meets (circuit_of l.net) v → AreInputsRight l.net v l.initial.values → AreLatchesRight l.net v l.initial.values → AreAsideRight l.net m.out.0 v l.initial.values → SomeBelow l.net m.out.0 l.gates v l.values l.j-index;
  others : (p : ℕ) → IsOutOfSome l.net l.gates p ⊎ (slice_get l.values p ≡ slice_get l.initial.values p);
}

use Rattle.std.proofs.Common.{◌≡◌, ℕ, Bool, length, slice_get, Some}
use Rattle.flat_net.specs.declared.parts.Port.{Port}
use Rattle.cycle_sim.specs.View.{IsLatestMark}
use Rattle.circuit_report.proofs.sim_report.cycles.latest_marks.Given as goal

abbrev pub invariant-loop-i : goal.invariant-loop-i
invariant-loop-i l =
    (length l.bits.items ≡ l.i)
    × ((k : ℕ) (port : Port) (bit : Bool) → slice_get l.sim.sim.net.outputs k ≡ Some port → slice_get l.bits.items k ≡ Some bit →
    IsLatestMark l.sim port.signal.0 bit)

use Rattle.std.proofs.Common.{◌≡◌, take}
use Rattle.cycle_sim.specs.Runs.{reset_bits}
use Rattle.cycle_sim.proofs.initial_values.reset_bits.Given as goal

abbrev pub invariant-loop-j : goal.invariant-loop-j
invariant-loop-j l = l.bits.items ≡ reset_bits (take l.j l.latches) (take l.j l.free)

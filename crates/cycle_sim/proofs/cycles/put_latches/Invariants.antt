use Rattle.std.proofs.Common.{ℕ, Bool}
use Rattle.cycle_sim.specs.Steps.{HasLatches}
use Rattle.cycle_sim.proofs.Values.{LatchesBelow}
use Rattle.cycle_sim.proofs.cycles.put_latches.Given as goal

abbrev pub invariant-loop-j : goal.invariant-loop-j
invariant-loop-j l = (v : ℕ → Bool) → HasLatches l.net l.latches v → LatchesBelow l.net l.latches l.initial.values l.values l.j v

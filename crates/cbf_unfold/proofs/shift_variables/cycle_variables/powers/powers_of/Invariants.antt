use Rattle.std.proofs.Common.{◌≡◌, ◌<◌, ℕ, false, length, get_or, slice_get, Some}
use Rattle.flat_net.specs.declared.parts.LatchAt.{LatchAt}
use Rattle.cbf_unfold.specs.shift_variables.cycle_variables.Cycles.{start_or}
use Rattle.cbf_unfold.proofs.shift_variables.cycle_variables.powers.powers_of.Given as goal

abbrev pub invariant-loop-j : goal.invariant-loop-j
invariant-loop-j l = record {
  long : length l.power.items ≡ l.j;
  each : (k : ℕ) (m : LatchAt) → k < l.j → slice_get l.net.latches k ≡ Some m → get_or l.power.items k false ≡ start_or m.init (get_or l.free k false);
}

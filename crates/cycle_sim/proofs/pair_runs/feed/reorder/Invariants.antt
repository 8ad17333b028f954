use Rattle.std.proofs.Common.{◌≡◌, ◌<◌, ℕ, Some, Option, slice_get}
use Rattle.cycle_sim.specs.pair_runs.Feeding.{bit_of}
use Rattle.cycle_sim.proofs.pair_runs.feed.reorder.Given as goal

abbrev pub invariant-loop-i : goal.invariant-loop-i
invariant-loop-i l = (k : ℕ) (c : Option ℕ) → k < l.i → slice_get l.columns k ≡ Some c → slice_get l.bits k ≡ Some (bit_of l.row c)

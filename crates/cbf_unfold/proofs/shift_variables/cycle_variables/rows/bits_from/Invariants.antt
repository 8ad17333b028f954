use Rattle.std.proofs.Common.{◌≡◌, ◌+◌, ◌<◌, ℕ, false, length, map, take, get_or}
use Rattle.pair_decide.specs.Queries.{assigned_to}
use Rattle.cbf_unfold.specs.shift_variables.cycle_variables.Cycles.{number_of}
use Rattle.cbf_unfold.proofs.shift_variables.cycle_variables.rows.bits_from.Given as goal

abbrev pub invariant-loop-k : goal.invariant-loop-k
invariant-loop-k l = record {
  long : length l.made.items ≡ l.count;
  written : (i : ℕ) → i < l.count → get_or l.made.items i false ≡ assigned_to (map (number_of l.places) (take l.k l.vars)) (take l.k l.bits) (l.from + i);
}

use Rattle.std.proofs.Common.{◌≡◌}
use Rattle.call_rows.proofs.runs.show_ones.Given as goal

abbrev pub invariant-loop : goal.invariant-loop
invariant-loop l = l.marked.sim.net ≡ l.net

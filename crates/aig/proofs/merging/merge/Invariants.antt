use Rattle.std.proofs.Common.{length, ◌-◌, ◌+◌, ◌≤◌}
use Rattle.aig.proofs.MergeLists.{Rest}
use Rattle.aig.proofs.merging.merge.Given as goal

abbrev pub invariant-loop-i : goal.invariant-loop-i
invariant-loop-i g l = record { left_in : l.i ≤ length l.left; right_in : l.j ≤ length l.right; rest : Rest (g.T.OrderedVariables.before l.variables) l.left l.right l.i l.j l.merged.items }

abbrev pub decreases-loop-i : goal.decreases-loop-i
decreases-loop-i g l = length l.left + length l.right - (l.i + l.j)

use Rattle.std.proofs.Common.{length, ◌-◌, ◌+◌, None}
use Rattle.clause_base.specs.Merging.{IsMerged}
use Rattle.clause_base.proofs.merge.merge.Given as goal

abbrev pub invariant-turns : goal.invariant-turns
invariant-turns l = IsMerged l.left l.right l.out.items None l.at.left l.at.right

abbrev pub decreases-turns : goal.decreases-turns
decreases-turns l = (length l.left - l.at.left) + (length l.right - l.at.right)

use Rattle.std.proofs.Common.{nat_eq}
use Rattle.indexmap.specs.IndexMap.{get}
use Rattle.aig.specs.lane_eval.root_classes.Splits.{IsSplitSoFar}
use Rattle.aig.proofs.lane_eval.root_classes.partition.split.Given as goal

abbrev pub invariant-loop-i : goal.invariant-loop-i
invariant-loop-i l = IsSplitSoFar l.firsts l.bits (get nat_eq l.heads) l.i l.new.items

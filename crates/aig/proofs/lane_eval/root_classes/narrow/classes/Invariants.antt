use Rattle.std.proofs.Common.{length}
use Rattle.aig.specs.lane_eval.root_classes.Splits.{AgreeSoFar}
use Rattle.aig.specs.lane_eval.root_classes.Rows.{row_of}
use Rattle.aig.proofs.lane_eval.root_classes.narrow.classes.Given as goal

abbrev pub invariant-loop-number : goal.invariant-loop-number
invariant-loop-number l = AgreeSoFar (row_of l.aig l.vars l.roots) (length l.roots) l.number l.firsts.items

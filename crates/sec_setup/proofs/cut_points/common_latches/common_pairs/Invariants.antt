use Rattle.sec_setup.specs.cut_points.Common.{AreCommonUpTo}
use Rattle.sec_setup.proofs.cut_points.common_latches.common_pairs.Given as goal

abbrev pub invariant-loop-i : goal.invariant-loop-i
invariant-loop-i l = AreCommonUpTo l.fn.a l.fn.b l.i l.pairs

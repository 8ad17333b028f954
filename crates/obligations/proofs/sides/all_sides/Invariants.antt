use Rattle.std.proofs.Common.{take}
use Rattle.std.specs.List.{AllZip}
use Rattle.obligations.specs.Asked.{MaySweep, queries_of}
use Rattle.obligations.proofs.sides.all_sides.Given as goal

abbrev pub invariant-loop-i : goal.invariant-loop-i
invariant-loop-i l = AllZip MaySweep (queries_of (take l.i l.asked)) l.sides.items

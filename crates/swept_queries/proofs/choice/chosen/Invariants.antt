use Rattle.std.proofs.Common.{take}
use Rattle.std.specs.List.{All, AllZip}
use Rattle.swept_queries.specs.InStead.{AreKnownWithin, IsKept}
use Rattle.swept_queries.proofs.choice.chosen.Given as goal

abbrev pub invariant-loop-i : goal.invariant-loop-i
invariant-loop-i l = record { kept : AllZip (IsKept l.aig l.words) (take l.i l.given) l.asked.items; within : All (AreKnownWithin l.aig) l.asked.items }

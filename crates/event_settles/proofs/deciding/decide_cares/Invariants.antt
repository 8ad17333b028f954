use Rattle.std.proofs.Common.{take}
use Rattle.std.specs.List.{AllZip}
use Rattle.event_settles.specs.Deciding.{IsCareDecided}
use Rattle.event_settles.proofs.deciding.decide_cares.Given as goal

abbrev pub invariant-loop-i : goal.invariant-loop-i
invariant-loop-i l = AllZip (IsCareDecided l.aig l.conflicts) (take l.i l.asked) l.cares

use Rattle.std.proofs.Common.{take}
use Rattle.latch_kinds.specs.unate_enable.Among.{AreFrom, IsOtherLatchAt}
use Rattle.latch_kinds.proofs.unate_enable.sources.latches_among.Given as goal

abbrev pub invariant-loop-s : goal.invariant-loop-s
invariant-loop-s l = AreFrom (IsOtherLatchAt l.net l.latch) (take l.s-index l.signals) l.latches.items

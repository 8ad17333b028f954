use Rattle.std.proofs.Common.{take}
use Rattle.latch_kinds.specs.unate_enable.Among.{AreFrom, IsInputAt}
use Rattle.latch_kinds.proofs.unate_enable.sources.inputs_among.Given as goal

abbrev pub invariant-loop-s : goal.invariant-loop-s
invariant-loop-s l = AreFrom (IsInputAt l.net) (take l.s-index l.signals) l.inputs.items

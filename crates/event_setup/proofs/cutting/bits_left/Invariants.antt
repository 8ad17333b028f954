use Rattle.std.proofs.Common.{take}
use Rattle.std.specs.List.{AllZip}
use Rattle.event_setup.specs.Cutting.{HasBit}
use Rattle.event_setup.proofs.cutting.bits_left.Given as goal

abbrev pub invariant-loop-latch : goal.invariant-loop-latch
invariant-loop-latch l = AllZip (HasBit l.net) (take l.latch-index l.cut.latches) l.bits

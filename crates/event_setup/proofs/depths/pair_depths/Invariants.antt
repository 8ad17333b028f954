use Rattle.std.proofs.Common.{take}
use Rattle.std.specs.List.{AllZip}
use Rattle.event_setup.specs.Setup.{IsPairDepthIn}
use Rattle.event_setup.proofs.depths.pair_depths.Given as goal

abbrev pub invariant-loop-pair : goal.invariant-loop-pair
invariant-loop-pair l = AllZip (IsPairDepthIn l.nets.left.now l.nets.right.now) (take l.pair-index l.pairs) l.depths

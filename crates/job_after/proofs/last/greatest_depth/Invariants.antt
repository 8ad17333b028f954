use Rattle.std.proofs.Common.{take, map}
use Rattle.flat_net.specs.View.{circuit_of}
use Rattle.sec_setup.specs.ports.Pairs.{places_of}
use Rattle.job_after.specs.Last.{IsGreatestDepth}
use Rattle.job_after.proofs.last.greatest_depth.Given as goal

abbrev pub invariant-loop-pair : goal.invariant-loop-pair
invariant-loop-pair l = IsGreatestDepth (circuit_of l.setup.left.now) (circuit_of l.setup.right.now) (map places_of (take l.pair-index l.setup.pairs)) l.greatest

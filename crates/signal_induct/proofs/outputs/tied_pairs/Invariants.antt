use Rattle.std.proofs.Common.{◌≡◌, map}
use Rattle.signal_induct.specs.Tied.{tied_pair}
use Rattle.signal_induct.proofs.outputs.tied_pairs.Given as goal

abbrev pub invariant-loop-pair : goal.invariant-loop-pair
invariant-loop-pair l = l.made ≡ map (tied_pair l.size l.anchors) l.yielded

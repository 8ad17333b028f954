use Rattle.std.proofs.Common.{◌≡◌, take}
use Rattle.sec_setup.specs.cut_points.expose_pick.Pairs.{lefts}
use Rattle.sec_setup.proofs.cut_points.expose_pick.pairs.lefts_of.Given as goal

abbrev pub invariant-loop-pair : goal.invariant-loop-pair
invariant-loop-pair l = l.made.items ≡ lefts (take l.pair-index l.common)

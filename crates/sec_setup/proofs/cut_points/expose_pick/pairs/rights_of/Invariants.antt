use Rattle.std.proofs.Common.{◌≡◌, take}
use Rattle.sec_setup.specs.cut_points.expose_pick.Pairs.{rights}
use Rattle.sec_setup.proofs.cut_points.expose_pick.pairs.rights_of.Given as goal

abbrev pub invariant-loop-pair : goal.invariant-loop-pair
invariant-loop-pair l = l.made.items ≡ rights (take l.pair-index l.common)

use Rattle.std.proofs.Common.{◌≡◌, map, take}
use Rattle.net_names.specs.Renamed.{name_on}
use Rattle.net_names.proofs.latch_pairs.table_of.Given as goal

abbrev pub invariant-loop-pair : goal.invariant-loop-pair
invariant-loop-pair l = l.names ≡ map (name_on l.side) (take l.pair-index l.pairs)

use Rattle.std.proofs.Common.{◌≡◌, ◌++◌, map, take}
use Rattle.net_names.specs.Renamed.{new_name}
use Rattle.net_names.proofs.new_names.add_latch_names.Given as goal

abbrev pub invariant-loop-latch : goal.invariant-loop-latch
invariant-loop-latch l = l.names ≡ l.initial.names ++ map (λ x. new_name l.pairs x.name) (take l.latch-index l.net.latches)

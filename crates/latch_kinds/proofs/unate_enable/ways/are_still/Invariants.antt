use Rattle.std.proofs.Common.{◌≡◌, nat_eq, take}
use Rattle.std.specs.List.{All}
use Rattle.indexmap.specs.IndexMap.{get}
use Rattle.flat_net.specs.declared.signals.Signal.{Signal}
use Rattle.latch_kinds.specs.unate_enable.Raises.{still, way_in}
use Rattle.latch_kinds.proofs.unate_enable.ways.are_still.Given as goal

abbrev pub invariant-loop-fanin : goal.invariant-loop-fanin
invariant-loop-fanin l = All (λ (f : Signal). way_in (get nat_eq l.ways) f.0 ≡ still) (take l.fanin-index l.fanins)

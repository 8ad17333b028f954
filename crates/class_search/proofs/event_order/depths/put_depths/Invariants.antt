use Rattle.std.proofs.Common.{◌≡◌, ℕ, List, ◌++◌, take, Option}
use Rattle.std.specs.List.{AllZip}
use Rattle.flat_net.specs.View.{circuit_of}
use Rattle.class_search.specs.event_order.Turns.{IsEnabledDepth}
use Rattle.class_search.proofs.event_order.depths.put_depths.Given as goal

abbrev pub invariant-loop-j : goal.invariant-loop-j
invariant-loop-j l = (depths : List (Option ℕ)) × (l.depths.items ≡ l.initial.depths.items ++ depths) × AllZip (IsEnabledDepth (circuit_of l.net)) (take l.j l.net.latches) depths

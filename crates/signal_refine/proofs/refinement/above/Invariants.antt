use Rattle.std.proofs.Common.{◌<◌, ◌≤◌, ◌^◌, take}
use Rattle.std.specs.List.{All}
use Rattle.signal_refine.proofs.refinement.above.Given as goal

abbrev pub invariant-loop-i : goal.invariant-loop-i
invariant-loop-i l = record { above : All (λ i. i < l.next) (take l.i-index l.numbers); least : l.least ≤ l.next; small : l.next ≤ 2 ^ 30 }

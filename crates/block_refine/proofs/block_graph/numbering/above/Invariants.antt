use Rattle.std.proofs.Common.{◌<◌, ◌≤◌, ◌^◌, take}
use Rattle.std.specs.List.{All}
use Rattle.block_refine.proofs.block_graph.numbering.above.Given as goal

abbrev pub invariant-loop-i : goal.invariant-loop-i
invariant-loop-i l = record { above : All (λ i. i < l.next) (take l.i-index l.numbers); least : l.least ≤ l.next; small : l.next ≤ 2 ^ 31 }

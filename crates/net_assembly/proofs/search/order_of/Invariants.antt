use Rattle.std.proofs.Common.{◌≡◌, ℕ, ◌<◌, []}
use Rattle.net_assembly.specs.Searched.{IsMet, IsSearch}
use Rattle.net_assembly.proofs.search.order_of.Given as goal

abbrev pub invariant-loop-start : goal.invariant-loop-start
invariant-loop-start l =
    IsSearch l.graph l.search.marks.items l.search.way.items l.search.order.items
    × (l.search.way.items ≡ [])
    × ((n : ℕ) → n < l.start → IsMet l.search.marks.items n)

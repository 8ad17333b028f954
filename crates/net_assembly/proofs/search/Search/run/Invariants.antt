use Rattle.std.proofs.Common.{ℕ}
use Rattle.net_assembly.specs.Searched.{IsMet, IsSearch, steps_left}
use Rattle.net_assembly.proofs.search.Search.run.Given as goal

abbrev pub invariant-loop-last : goal.invariant-loop-last
invariant-loop-last l =
    IsSearch l.graph l.self.marks.items l.self.way.items l.self.order.items
    × IsMet l.self.marks.items l.start
    × ((n : ℕ) → IsMet l.fn.self.marks.items n → IsMet l.self.marks.items n)

abbrev pub decreases-loop-last : goal.decreases-loop-last
decreases-loop-last l = steps_left l.graph l.self.marks.items

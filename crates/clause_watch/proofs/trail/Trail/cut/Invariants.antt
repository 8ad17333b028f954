use Rattle.std.proofs.Common.{◌≡◌, length, take}
use Rattle.clause_watch.specs.Index.{IsIndex}
use Rattle.clause_watch.proofs.trail.Trail.cut.Given as goal

-- the marks stay right, and nothing below `keep` is lost
abbrev pub invariant-loop-self : goal.invariant-loop-self
invariant-loop-self l =
    IsIndex l.self-inside.entries.items l.self-inside.marks.items × (length l.self-inside.marks.items ≡ l.fn.self.variables) × (take l.keep l.self-inside.entries.items ≡ take l.keep l.fn.self.entries)

abbrev pub decreases-loop-self : goal.decreases-loop-self
decreases-loop-self l = length l.self-inside.entries.items

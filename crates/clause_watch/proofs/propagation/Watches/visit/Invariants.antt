use Rattle.std.proofs.Common.{◌≡◌, ◌≤◌, ◌-◌, length}
use Rattle.clause_watch.specs.Rows.{row}
use Rattle.clause_watch.specs.Watching.{IsVisiting}
use Rattle.clause_watch.proofs.propagation.Watches.visit.Given as goal

abbrev pub invariant-visits : goal.invariant-visits
invariant-visits l =
    IsVisiting l.self.clauses.known l.trail l.self.clauses.pairs l.self.clauses.rows l.self.head l.literal l.place × (l.self.head ≡ l.initial.self.head) × (l.trail.variables ≡ l.initial.trail.variables) × (length l.self.clauses.rows ≡ length l.initial.self.clauses.rows)
    × (length l.initial.trail.entries ≤ length l.trail.entries) × (l.self.clauses.known ≡ l.initial.self.clauses.known)

abbrev pub decreases-visits : goal.decreases-visits
decreases-visits l = length (row l.self.clauses.rows l.literal) - l.place

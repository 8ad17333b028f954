use Rattle.std.proofs.Common.{◌≡◌, ◌≤◌, length, ◌-◌}
use Rattle.clause_watch.specs.Watching.{IsWatched}
use Rattle.clause_watch.proofs.propagation.Watches.propagate.Given as goal

abbrev pub invariant-turns : goal.invariant-turns
invariant-turns l =
    IsWatched l.self.clauses.known l.trail l.self.clauses.pairs l.self.clauses.rows l.self.head × (l.trail.variables ≡ l.initial.trail.variables) × (length l.initial.trail.entries ≤ length l.trail.entries) × (l.self.clauses.known ≡ l.initial.self.clauses.known)

abbrev pub decreases-turns : goal.decreases-turns
decreases-turns l = l.initial.trail.variables - l.self.head

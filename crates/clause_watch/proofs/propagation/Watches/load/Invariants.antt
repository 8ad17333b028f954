use Rattle.std.proofs.Common.{◌≡◌}
use Rattle.clause_watch.specs.Learning.{IsLoading}
use Rattle.clause_watch.proofs.propagation.Watches.load.Given as goal

abbrev pub invariant-loop-number : goal.invariant-loop-number
invariant-loop-number l = IsLoading l.self.clauses.known l.trail l.self.clauses.pairs l.self.clauses.rows l.number × (l.trail.variables ≡ l.initial.trail.variables)

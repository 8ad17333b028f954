use Rattle.std.proofs.Common.{◌≡◌, ◌+◌, ◌*◌, length, take}
use Rattle.clause_watch.specs.TwoWatches.{KeepsWatches}
use Rattle.clause_watch.proofs.watched_clauses.WatchedClauses.new.Given as goal

abbrev pub invariant-loop-clause : goal.invariant-loop-clause
invariant-loop-clause l = (l.made.known ≡ take l.clause-index l.clauses) × (length l.made.rows ≡ 2 * l.variables + 2) × KeepsWatches l.made.known l.made.pairs l.made.rows

use Rattle.std.proofs.Common.{subst, sym}
use Rattle.clause_base.specs.Clauses.{IsClause}
use Rattle.clause_watch.proofs.watched_clauses.WatchedClauses.new.Goals as goal

pub push-requires-clause-clause : goal.push-requires-clause-clause
push-requires-clause-clause c = subst IsClause (sym c.as_slice.ensures.value) c.as_slice.ensures.clause

pub first_pair-requires : goal.first_pair-requires
first_pair-requires c = subst IsClause (sym c.as_slice-in-loop-clause.ensures.value) c.as_slice-in-loop-clause.ensures.clause

use Rattle.clause_watch.proofs.Keeping.{keeps_none}
use Rattle.clause_watch.proofs.watched_clauses.WatchedClauses.empty.Goals as goal

pub returns-clause-kept : goal.returns-clause-kept
returns-clause-kept c = rw (c.in_ok-empty.ensures, c.new.ensures.items) (keeps_none c.args.variables c.in_ok-new.field-0 c.in_ok-new.ensures)

pub invariant_of-result : goal.invariant_of-result
invariant_of-result c = rw (c.in_ok-empty.ensures, c.new.ensures.items) (keeps_none c.args.variables c.in_ok-new.field-0 c.in_ok-new.ensures)

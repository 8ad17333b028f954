use Rattle.std.proofs.Common.{◌≡◌, ◌++◌, [], drop}
use Rattle.lrat_core.specs.dimacs_text.Entries.{clauses_from}
use Rattle.lrat_core.proofs.dimacs_text.body.clauses_of.Given as goal

-- the clauses so far, and those of the entries that are left
abbrev pub invariant-loop-entry : goal.invariant-loop-entry
invariant-loop-entry l = clauses_from [] l.entries ≡ l.clauses ++ clauses_from l.literals (drop l.entry-index l.entries)

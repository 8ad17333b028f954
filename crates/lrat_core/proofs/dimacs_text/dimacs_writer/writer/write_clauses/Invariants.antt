use Rattle.std.proofs.Common.{◌≡◌, ◌++◌, take, length}
use Rattle.std.specs.List.{flat_map}
use Rattle.lrat_core.specs.dimacs_text.dimacs_writer.Written.{header_text, clause_text}
use Rattle.lrat_core.proofs.dimacs_text.dimacs_writer.writer.write_clauses.Given as goal

-- the header, and the clauses so far
abbrev pub invariant-loop-clause : goal.invariant-loop-clause
invariant-loop-clause l = l.text.items ≡ header_text l.variables (length l.clauses) ++ flat_map clause_text (take l.clause-index l.clauses)

use Rattle.std.proofs.Common.{take}
use Rattle.std.specs.List.{All}
use Rattle.proof_check.specs.Clauses.{IsClause}
use Rattle.lrat_core.proofs.certificate_writer.refutation.look_at_all.Given as goal

-- those so far
abbrev pub invariant-loop-clause : goal.invariant-loop-clause
invariant-loop-clause l = All IsClause (take l.clause-index l.clauses)

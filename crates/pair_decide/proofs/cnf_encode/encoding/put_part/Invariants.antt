use Rattle.std.proofs.Common.{take}
use Rattle.pair_decide.specs.cnf_encode.Encoding.{part_clauses, Adds}
use Rattle.pair_decide.proofs.cnf_encode.encoding.put_part.Given as goal

abbrev pub invariant-loop-k : goal.invariant-loop-k
invariant-loop-k l = Adds (part_clauses 0 (take l.k l.part)) l.initial.clauses l.clauses

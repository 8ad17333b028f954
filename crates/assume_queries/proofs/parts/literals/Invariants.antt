use Rattle.std.proofs.Common.{◌≡◌, take}
use Rattle.assume_queries.specs.Parts.{literals_at}
use Rattle.assume_queries.proofs.parts.literals.Given as goal

abbrev pub invariant-loop-n : goal.invariant-loop-n
invariant-loop-n l = l.lits.items ≡ literals_at l.functions (take l.n-index l.own)

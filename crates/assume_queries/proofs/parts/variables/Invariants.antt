use Rattle.std.proofs.Common.{◌≡◌, take}
use Rattle.assume_queries.specs.Parts.{variables_at}
use Rattle.assume_queries.proofs.parts.variables.Given as goal

abbrev pub invariant-loop-n : goal.invariant-loop-n
invariant-loop-n l = l.vars.items ≡ variables_at l.functions (take l.n-index l.own)

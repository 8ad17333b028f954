use Rattle.std.proofs.Common.{◌≡◌, map, take, get_or}
use Rattle.assume_queries.proofs.assume_functions.numbers.picked.Given as goal

abbrev pub invariant-loop-v : goal.invariant-loop-v
invariant-loop-v l = l.made.items ≡ map (λ v. get_or l.numbers v 0) (take l.v-index l.vars)

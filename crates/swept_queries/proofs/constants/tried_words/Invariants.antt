use Rattle.std.proofs.Common.{◌≡◌, ◌*◌, length}
use Rattle.swept_queries.specs.sweep.aig.Graph.{vars_of}
use Rattle.swept_queries.proofs.constants.tried_words.Given as goal

abbrev pub invariant-loop-n : goal.invariant-loop-n
invariant-loop-n l = length l.words.items ≡ 8 * vars_of l.aig

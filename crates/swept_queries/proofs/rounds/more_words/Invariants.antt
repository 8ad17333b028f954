use Rattle.std.proofs.Common.{◌≡◌, ◌*◌, length}
use Rattle.swept_queries.specs.sweep.aig.Graph.{vars_of}
use Rattle.swept_queries.proofs.rounds.more_words.Given as goal

abbrev pub invariant-loop-round : goal.invariant-loop-round
invariant-loop-round l = length l.words.items ≡ 8 * vars_of l.aig

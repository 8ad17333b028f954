use Rattle.std.proofs.Common.{◌≡◌, length}
use Rattle.swept_queries.proofs.rounds.drawn_words.Given as goal

abbrev pub invariant-loop-n : goal.invariant-loop-n
invariant-loop-n l = length l.words.items ≡ l._n

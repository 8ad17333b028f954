use Rattle.std.proofs.Common.{◌≡◌, length}
use Rattle.merged_graph.proofs.words.words_for.Given as goal

abbrev pub invariant-loop-n : goal.invariant-loop-n
invariant-loop-n l = length l.words.items ≡ l._n

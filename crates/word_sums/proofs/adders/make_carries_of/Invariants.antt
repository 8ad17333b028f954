-- The graph has grown.
use Rattle.aig.specs.Graph.{Grows}
use Rattle.word_sums.proofs.adders.make_carries_of.Given as goal

abbrev pub invariant-loop-k : goal.invariant-loop-k
invariant-loop-k l = Grows l.fn.graph l.graph

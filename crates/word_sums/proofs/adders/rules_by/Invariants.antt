-- The graph has grown.
use Rattle.aig.specs.Graph.{Grows}
use Rattle.word_sums.proofs.adders.rules_by.Given as goal

abbrev pub invariant-loop-n : goal.invariant-loop-n
invariant-loop-n l = Grows l.fn.graph l.graph

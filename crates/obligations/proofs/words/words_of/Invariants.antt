use Rattle.obligations.specs.Agreed.{IsWord}
use Rattle.obligations.proofs.words.words_of.Given as goal

abbrev pub invariant-loop-k : goal.invariant-loop-k
invariant-loop-k l = IsWord l.aig l.word

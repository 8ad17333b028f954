use Rattle.std.proofs.Common.{List}
use Rattle.obligations.specs.outcome.aig.Node.{Node}
use Rattle.word_sums.specs.Words.{AgreeEach}
use Rattle.obligations.specs.Agreed.{AreAgreed}
use Rattle.obligations.proofs.words.put_bits.Given as goal

abbrev pub invariant-loop-k : goal.invariant-loop-k
invariant-loop-k l = (g : List Node) → AgreeEach g l.left l.right → AreAgreed g l.fn.bits → AreAgreed g l.bits

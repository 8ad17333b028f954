use Rattle.obligations.specs.Agreed.{AreAgreed}
use Rattle.obligations.proofs.words.ask_words.Given as goal

abbrev pub invariant-loop-i : goal.invariant-loop-i
invariant-loop-i l = AreAgreed l.aig l.bits

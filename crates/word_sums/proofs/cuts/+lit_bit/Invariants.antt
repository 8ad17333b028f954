-- Each step goes down.
use Rattle.word_sums.proofs.cuts.+lit_bit.Given as goal

abbrev pub decreases-lit_bit : goal.decreases-lit_bit
decreases-lit_bit l = l.steps

-- Each step goes down.
use Rattle.aig.proofs.graph_copy.aig_or.restrict.+is_conjunct.Given as goal

abbrev pub decreases-is_conjunct : goal.decreases-is_conjunct
decreases-is_conjunct l = l.steps

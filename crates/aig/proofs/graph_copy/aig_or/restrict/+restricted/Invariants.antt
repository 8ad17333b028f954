-- Each step goes down.
use Rattle.aig.proofs.graph_copy.aig_or.restrict.+restricted.Given as goal

abbrev pub decreases-restricted : goal.decreases-restricted
decreases-restricted l = l.steps

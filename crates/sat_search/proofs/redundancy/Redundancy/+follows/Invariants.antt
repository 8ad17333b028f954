use Rattle.sat_search.proofs.redundancy.Redundancy.+follows.Given as goal

abbrev pub decreases-follows : goal.decreases-follows
decreases-follows l = l.depth

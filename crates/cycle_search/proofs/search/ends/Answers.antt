use Rattle.cycle_search.proofs.search.ends.Goals as goal

pub returns-in-Equal-clause-deep : goal.returns-in-Equal-clause-deep
returns-in-Equal-clause-deep c = λ t e. c.reaches_depths.ensures.0 t

use Rattle.premise_rows.proofs.event_literal_premises.Trees.{equal_trees_meet_premises}
use Rattle.premise_rows.proofs.event_literal_premises.equal_trees_meet_premises.Goals as goal

pub returns : goal.returns
returns c = equal_trees_meet_premises

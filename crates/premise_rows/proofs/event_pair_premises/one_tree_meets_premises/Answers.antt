use Rattle.premise_rows.proofs.event_pair_premises.Turning.{one_tree_meets_premises}
use Rattle.premise_rows.proofs.event_pair_premises.one_tree_meets_premises.Goals as goal

pub returns : goal.returns
returns c = one_tree_meets_premises

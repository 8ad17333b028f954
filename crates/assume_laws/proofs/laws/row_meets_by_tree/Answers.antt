use Rattle.assume_laws.proofs.Care.{row_meets_by_tree}
use Rattle.assume_laws.proofs.laws.row_meets_by_tree.Goals as goal

pub returns : goal.returns
returns c = row_meets_by_tree

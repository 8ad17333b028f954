use Rattle.premise_rows.proofs.Examples.{hierarchy_is_comparable}
use Rattle.premise_rows.proofs.hierarchy_is_comparable.Goals as goal

pub returns : goal.returns
returns c = hierarchy_is_comparable

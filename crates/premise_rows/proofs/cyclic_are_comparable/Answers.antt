use Rattle.premise_rows.proofs.Examples.{cyclic_are_comparable}
use Rattle.premise_rows.proofs.cyclic_are_comparable.Goals as goal

pub returns : goal.returns
returns c = cyclic_are_comparable

use Rattle.premise_rows.proofs.Examples.{ands_are_comparable}
use Rattle.premise_rows.proofs.ands_are_comparable.Goals as goal

pub returns : goal.returns
returns c = ands_are_comparable

use Rattle.premise_rows.proofs.Examples.{retimed_are_comparable}
use Rattle.premise_rows.proofs.retimed_are_comparable.Goals as goal

pub returns : goal.returns
returns c = retimed_are_comparable

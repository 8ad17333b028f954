use Rattle.premise_rows.proofs.event_assume_rows.assume_rows.Examples.{and_meets_or}
use Rattle.premise_rows.proofs.event_assume_rows.assume_rows.and_meets_or.Goals as goal

pub returns : goal.returns
returns c = and_meets_or

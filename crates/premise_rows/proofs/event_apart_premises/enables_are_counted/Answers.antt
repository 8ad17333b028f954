use Rattle.premise_rows.proofs.event_apart_premises.Enables.{are_counted}
use Rattle.premise_rows.proofs.event_apart_premises.enables_are_counted.Goals as goal

pub returns : goal.returns
returns c = are_counted

use Rattle.premise_rows.proofs.event_apart_premises.TwoTold.{are_told_apart}
use Rattle.premise_rows.proofs.event_apart_premises.two_classes_are_told_apart.Goals as goal

pub returns : goal.returns
returns c = are_told_apart

use Rattle.premise_rows.proofs.event_class_premises.Shifted.{shift_meets_premises}
use Rattle.premise_rows.proofs.event_class_premises.shift_meets_premises.Goals as goal

pub returns : goal.returns
returns c = shift_meets_premises

use Rattle.premise_rows.proofs.event_class_premises.AlwaysFits.{always_meets_premises}
use Rattle.premise_rows.proofs.event_class_premises.always_meets_premises.Goals as goal

pub returns : goal.returns
returns c = always_meets_premises

use Rattle.premise_rows.proofs.event_class_premises.TwoEnables.{apart_meets_premises}
use Rattle.premise_rows.proofs.event_class_premises.apart_meets_premises.Goals as goal

pub returns : goal.returns
returns c = apart_meets_premises

use Rattle.premise_rows.proofs.event_class_premises.Enables.{enable_meets_premises}
use Rattle.premise_rows.proofs.event_class_premises.enable_meets_premises.Goals as goal

pub returns : goal.returns
returns c = enable_meets_premises

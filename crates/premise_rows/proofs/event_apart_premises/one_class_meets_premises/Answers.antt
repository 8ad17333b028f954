use Rattle.premise_rows.proofs.event_apart_premises.OneClass.{meets_premises}
use Rattle.premise_rows.proofs.event_apart_premises.one_class_meets_premises.Goals as goal

pub returns : goal.returns
returns c = meets_premises

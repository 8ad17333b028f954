use Rattle.premise_rows.proofs.event_class_premises.ClassLimit.{class_limit_is_met}
use Rattle.premise_rows.proofs.event_class_premises.class_limit_is_met.Goals as goal

pub returns : goal.returns
returns c = class_limit_is_met

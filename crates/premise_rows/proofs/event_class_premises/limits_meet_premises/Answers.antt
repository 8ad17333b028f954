use Rattle.premise_rows.proofs.event_class_premises.AtLimit.{limits_meet_premises}
use Rattle.premise_rows.proofs.event_class_premises.limits_meet_premises.Goals as goal

pub returns : goal.returns
returns c = limits_meet_premises

use Rattle.premise_rows.proofs.event_class_premises.Totals.{totals_meet_premises}
use Rattle.premise_rows.proofs.event_class_premises.totals_meet_premises.Goals as goal

pub returns : goal.returns
returns c = totals_meet_premises

use Rattle.premise_rows.proofs.event_class_premises.TwoEnables.{founds_meet_premises}
use Rattle.premise_rows.proofs.event_class_premises.founds_meet_premises.Goals as goal

pub returns : goal.returns
returns c = founds_meet_premises

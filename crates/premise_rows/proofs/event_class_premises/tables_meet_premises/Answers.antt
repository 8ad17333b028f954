use Rattle.premise_rows.proofs.event_class_premises.Tables.{tables_meet_premises}
use Rattle.premise_rows.proofs.event_class_premises.tables_meet_premises.Goals as goal

pub returns : goal.returns
returns c = tables_meet_premises

use Rattle.premise_rows.proofs.event_literal_premises.Alike.{alike_enables_meet_premises}
use Rattle.premise_rows.proofs.event_literal_premises.alike_enables_meet_premises.Goals as goal

pub returns : goal.returns
returns c = alike_enables_meet_premises

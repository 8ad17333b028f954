use Rattle.premise_rows.proofs.event_literal_premises.Visits.{visits_meet_premises}
use Rattle.premise_rows.proofs.event_literal_premises.visits_meet_premises.Goals as goal

pub returns : goal.returns
returns c = visits_meet_premises

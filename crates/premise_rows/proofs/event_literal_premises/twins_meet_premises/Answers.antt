use Rattle.premise_rows.proofs.event_literal_premises.Twins.{twins_meet_premises}
use Rattle.premise_rows.proofs.event_literal_premises.twins_meet_premises.Goals as goal

pub returns : goal.returns
returns c = twins_meet_premises

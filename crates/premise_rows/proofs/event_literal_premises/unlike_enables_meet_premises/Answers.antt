use Rattle.premise_rows.proofs.event_literal_premises.Unlike.{unlike_enables_meet_premises}
use Rattle.premise_rows.proofs.event_literal_premises.unlike_enables_meet_premises.Goals as goal

pub returns : goal.returns
returns c = unlike_enables_meet_premises

use Rattle.premise_rows.proofs.event_pair_premises.Held.{meet_premises}
use Rattle.premise_rows.proofs.event_pair_premises.equalities_meet_premises.Goals as goal

pub returns : goal.returns
returns c = meet_premises

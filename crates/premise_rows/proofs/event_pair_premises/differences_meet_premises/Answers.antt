use Rattle.premise_rows.proofs.event_pair_premises.Differing.{meet_premises}
use Rattle.premise_rows.proofs.event_pair_premises.differences_meet_premises.Goals as goal

pub returns : goal.returns
returns c = meet_premises

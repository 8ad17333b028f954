use Rattle.premise_rows.proofs.event_pair_premises.Crossed.{meet_premises}
use Rattle.premise_rows.proofs.event_pair_premises.cared_differences_meet_premises.Goals as goal

pub returns : goal.returns
returns c = meet_premises

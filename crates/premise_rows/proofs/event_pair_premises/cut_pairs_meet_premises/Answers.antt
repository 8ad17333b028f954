use Rattle.premise_rows.proofs.event_pair_premises.Turning.{meet_premises}
use Rattle.premise_rows.proofs.event_pair_premises.cut_pairs_meet_premises.Goals as goal

pub returns : goal.returns
returns c = meet_premises

use Rattle.premise_rows.proofs.event_pair_premises.Counted.{functions_meet_premises}
use Rattle.premise_rows.proofs.event_pair_premises.functions_meet_premises.Goals as goal

pub returns : goal.returns
returns c = functions_meet_premises

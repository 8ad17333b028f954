use Rattle.premise_rows.proofs.event_pair_premises.CrossedCompared.{can_be_compared}
use Rattle.premise_rows.proofs.event_pair_premises.crossed_pair_can_be_compared.Goals as goal

pub returns : goal.returns
returns c = can_be_compared

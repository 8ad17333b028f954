use Rattle.premise_rows.proofs.event_limit_premises.Found.{can_be_compared}
use Rattle.premise_rows.proofs.event_limit_premises.pair_at_limit_can_be_compared.Goals as goal

pub returns : goal.returns
returns c = can_be_compared

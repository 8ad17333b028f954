use Rattle.premise_rows.proofs.event_pair_premises.Counted.{pair_is_counted}
use Rattle.premise_rows.proofs.event_pair_premises.pair_is_counted.Goals as goal

pub returns : goal.returns
returns c = pair_is_counted

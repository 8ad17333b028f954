use Rattle.premise_rows.proofs.event_apart_premises.TwoCompared.{can_be_compared}
use Rattle.premise_rows.proofs.event_apart_premises.pair_of_two_classes_can_be_compared.Goals as goal

pub returns : goal.returns
returns c = can_be_compared

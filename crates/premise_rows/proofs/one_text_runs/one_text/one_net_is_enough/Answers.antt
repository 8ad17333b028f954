use Rattle.premise_rows.proofs.one_text_runs.one_text.OneNets.{one_net_is_enough}
use Rattle.premise_rows.proofs.one_text_runs.one_text.one_net_is_enough.Goals as goal

pub returns : goal.returns
returns c = one_net_is_enough

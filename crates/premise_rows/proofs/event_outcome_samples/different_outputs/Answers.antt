use Rattle.premise_rows.proofs.event_outcome_samples.Answer.{answered}
use Rattle.premise_rows.proofs.event_outcome_samples.different_outputs.Goals as goal

pub returns : goal.returns
returns c = answered

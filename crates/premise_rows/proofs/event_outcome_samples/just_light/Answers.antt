use Rattle.premise_rows.proofs.event_outcome_samples.Pair.{full}
use Rattle.premise_rows.proofs.event_outcome_samples.just_light.Goals as goal

pub returns : goal.returns
returns c = full

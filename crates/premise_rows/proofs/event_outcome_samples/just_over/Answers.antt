use Rattle.premise_rows.proofs.event_outcome_samples.Pair.{overfull}
use Rattle.premise_rows.proofs.event_outcome_samples.just_over.Goals as goal

pub returns : goal.returns
returns c = overfull

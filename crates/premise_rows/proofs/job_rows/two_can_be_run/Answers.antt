use Rattle.premise_rows.proofs.job_rows.Stimuli.{two_can_be_run}
use Rattle.premise_rows.proofs.job_rows.two_can_be_run.Goals as goal

pub returns : goal.returns
returns c = two_can_be_run

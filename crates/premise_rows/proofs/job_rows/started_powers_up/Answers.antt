use Rattle.premise_rows.proofs.job_rows.Started.{started_powers_up}
use Rattle.premise_rows.proofs.job_rows.started_powers_up.Goals as goal

pub returns : goal.returns
returns c = started_powers_up

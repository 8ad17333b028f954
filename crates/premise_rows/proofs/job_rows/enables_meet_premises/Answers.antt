use Rattle.premise_rows.proofs.job_rows.Enables.{enables_meet_premises}
use Rattle.premise_rows.proofs.job_rows.enables_meet_premises.Goals as goal

pub returns : goal.returns
returns c = enables_meet_premises

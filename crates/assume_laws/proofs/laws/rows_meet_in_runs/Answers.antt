use Rattle.assume_laws.proofs.Care.{rows_meet_in_runs}
use Rattle.assume_laws.proofs.laws.rows_meet_in_runs.Goals as goal

pub returns : goal.returns
returns c = rows_meet_in_runs

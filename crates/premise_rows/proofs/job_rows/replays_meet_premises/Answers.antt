use Rattle.premise_rows.proofs.job_rows.Replays.{replays_meet_premises}
use Rattle.premise_rows.proofs.job_rows.replays_meet_premises.Goals as goal

pub returns : goal.returns
returns c = replays_meet_premises

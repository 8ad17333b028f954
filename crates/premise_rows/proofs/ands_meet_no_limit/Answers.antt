use Rattle.premise_rows.proofs.NoLimit.{ands_meet_no_limit}
use Rattle.premise_rows.proofs.ands_meet_no_limit.Goals as goal

pub returns : goal.returns
returns c = ands_meet_no_limit

use Rattle.premise_rows.proofs.event_limit_premises.AtLimit.{meets_premises}
use Rattle.premise_rows.proofs.event_limit_premises.limit_meets_premises.Goals as goal

pub returns : goal.returns
returns c = meets_premises

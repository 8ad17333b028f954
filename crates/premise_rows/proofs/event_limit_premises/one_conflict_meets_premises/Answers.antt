use Rattle.premise_rows.proofs.event_limit_premises.OneConflict.{meets_one}
use Rattle.premise_rows.proofs.event_limit_premises.one_conflict_meets_premises.Goals as goal

pub returns : goal.returns
returns c = meets_one

use Rattle.premise_rows.proofs.job_rows.nested_rows.Nested.{nested_meets_onward}
use Rattle.premise_rows.proofs.job_rows.nested_rows.nested_meets_onward.Goals as goal

pub returns : goal.returns
returns c = nested_meets_onward

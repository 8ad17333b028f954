use Rattle.premise_rows.proofs.job_rows.nested_rows.Nested.{nested_is_small}
use Rattle.premise_rows.proofs.job_rows.nested_rows.nested_is_small.Goals as goal

pub returns : goal.returns
returns c = nested_is_small

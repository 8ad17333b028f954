use Rattle.premise_rows.proofs.job_rows.nested_rows.NestedText.{nested_is_cut_open}
use Rattle.premise_rows.proofs.job_rows.nested_rows.nested_is_cut_open.Goals as goal

pub returns : goal.returns
returns c = nested_is_cut_open

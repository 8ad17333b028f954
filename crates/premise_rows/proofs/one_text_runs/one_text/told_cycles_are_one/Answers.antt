use Rattle.premise_rows.proofs.one_text_runs.one_text.OneNets.{told_cycles_are_one}
use Rattle.premise_rows.proofs.one_text_runs.one_text.told_cycles_are_one.Goals as goal

pub returns : goal.returns
returns c = told_cycles_are_one

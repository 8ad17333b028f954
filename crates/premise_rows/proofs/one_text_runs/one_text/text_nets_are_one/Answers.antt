use Rattle.job_base.proofs.sec_files.Texts.{one_text_net}
use Rattle.premise_rows.proofs.one_text_runs.one_text.text_nets_are_one.Goals as goal

pub returns : goal.returns
returns c = λ text a b left right. one_text_net text a b left right

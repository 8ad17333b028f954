use Rattle.net_names.proofs.Renamings.{keeps_runs}
use Rattle.net_names.proofs.renaming.renaming_keeps_runs.Goals as goal

pub returns : goal.returns
returns c = keeps_runs

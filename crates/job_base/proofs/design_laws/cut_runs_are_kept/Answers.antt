use Rattle.job_base.proofs.design_laws.Kept.{cut_runs_are_kept}
use Rattle.job_base.proofs.design_laws.cut_runs_are_kept.Goals as goal

pub returns : goal.returns
returns c = cut_runs_are_kept

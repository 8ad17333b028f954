use Rattle.job_base.proofs.design_laws.Kept.{cycles_are_kept}
use Rattle.job_base.proofs.design_laws.cycles_are_kept.Goals as goal

pub returns : goal.returns
returns c = cycles_are_kept

use Rattle.job_base.proofs.design_laws.Kept.{minimal_cuts_are_kept}
use Rattle.job_base.proofs.design_laws.minimal_cuts_are_kept.Goals as goal

pub returns : goal.returns
returns c = minimal_cuts_are_kept

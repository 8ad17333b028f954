use Rattle.job_base.proofs.design_laws.KeptNames.{names_are_kept}
use Rattle.job_base.proofs.design_laws.names_are_kept.Goals as goal

pub returns : goal.returns
returns c = names_are_kept

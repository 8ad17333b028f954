use Rattle.job_base.proofs.design_laws.Kept.{agreement_is_kept}
use Rattle.job_base.proofs.design_laws.agreement_is_kept.Goals as goal

pub returns : goal.returns
returns c = agreement_is_kept

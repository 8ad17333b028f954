use Rattle.job_base.proofs.design_laws.event_designs.Kept.{enabled_are_kept}
use Rattle.job_base.proofs.design_laws.event_designs.enabled_are_kept.Goals as goal

pub returns : goal.returns
returns c = enabled_are_kept
